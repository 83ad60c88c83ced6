-- What is promised of samples: each is a good source, and there is a stack for each image of it.
use Rattle.std.specs.Prelude.{◌≡◌, ℕ, ◌≤◌, List, [], length, None}
use Rattle.qs_assert.specs.declared.define.Amount.TheVariants.{Finite}
use Rattle.qs_cli.specs.Numbers.{most_sample_functions}
use Rattle.qs_core.specs.CallGraph.{IsWithoutRecursion}
use Rattle.qs_elaborate_laws.specs.FitLaws.{HasCore}
use Rattle.qs_image.specs.Image.{Image}
use Rattle.qs_machine.specs.Arguments.{AreArguments}
use Rattle.qs_machine.specs.State.{stack_limit}
use Rattle.qs_driver_session.specs.Limits.{source_limit}
use Rattle.qs_driver_session.specs.Source.{IsTypedUnit}
use Rattle.qs_driver_session.specs.SampleSource.{sample_text}
use Rattle.qs_driver.specs.Certified.{CertifiedSource, IsCertifiedAs}
use Rattle.qs_driver.specs.Bounds.{IsImageOf, bound_by, costs_in}

-- each sample has at least one function beside main
abbrev pub IsSampleCount : ℕ → Type 0
IsSampleCount n = (1 ≤ n) × (n ≤ most_sample_functions)

-- the text is no longer than a source may be, and a typed unit whose core is without recursion
pub record IsGoodSource (text : List ℕ) : Type 0 where
  pub short : length text ≤ source_limit
  pub typed : IsTypedUnit text
  pub has_core : HasCore typed.unit.trees
  pub without_recursion : IsWithoutRecursion has_core.core

abbrev pub SamplesAreGood : Type 0
SamplesAreGood = (n : ℕ) → 1 ≤ n → n ≤ most_sample_functions → IsGoodSource (sample_text n)

-- main takes no arguments, its bound is a number, and a stack can have so many bytes
pub record HasSmallBound (s : CertifiedSource) (image : Image) : Type 0 where
  pub arguments : AreArguments image []
  pub stack : ℕ
  pub bound : bound_by s (costs_in image.functions) [] ≡ Finite stack
  pub small : stack ≤ stack_limit

abbrev pub SamplesHaveStacks : Type 0
SamplesHaveStacks =
    (n : ℕ) (s : CertifiedSource) (image : Image) → 1 ≤ n → n ≤ most_sample_functions
    → IsCertifiedAs (sample_text n) None s → IsImageOf s image → HasSmallBound s image
