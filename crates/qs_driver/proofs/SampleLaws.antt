-- Each sample is a good source.
use Rattle.std.proofs.Common.{◌≡◌, ℕ, ◌≤◌, ◌<◌, Some, sym, ◌∙◌, subst, arith}
use Rattle.std.proofs.lemmas.Option.{same_Some}
use Rattle.qs_syntax.specs.Units.{IsRead}
use Rattle.qs_lexer.specs.Terminals.{terminals}
use Rattle.qs_lexer.proofs.TerminalLaws.{are_well_formed}
use Rattle.qs_core.specs.CallGraph.{IsWithoutRecursion}
use Rattle.qs_core.specs.Trees.{CoreUnitTree}
use Rattle.qs_elaborate_laws.specs.FitLaws.{HasCore}
use Rattle.qs_elaborate_bodies.specs.Names.{names_in}
use Rattle.qs_elaborate_bodies.specs.Units.{core_of}
use Rattle.qs_elaborate_laws.proofs.FitCore.{units_have_cores}
use Rattle.qs_syntax.specs.Trees.{UnitTree}
use Rattle.qs_driver_session.specs.SampleSource.{sample_text}
use Rattle.qs_driver_session.specs.Source.{IsUnit}
use Rattle.qs_driver_session.proofs.SampleBytes.{sample_length, sample_bytes}
use Rattle.qs_driver_session.proofs.SampleTrees.{IsTail}
use Rattle.qs_driver_session.proofs.SampleGood.{IsTypedSample, sample_is_typed}
use Rattle.qs_driver.specs.SampleLaws.{SamplesAreGood}
use Rattle.qs_driver.proofs.SampleCore.{core_by, core_is, is_without_recursion}

is_read : (n : ℕ) → n < 512 → (u : IsUnit (sample_text n)) → IsRead u.trees
is_read n l u = ∣ record {
  tokens = terminals (sample_text n) 0 u.tokens;
  height = u.reads.height;
  unnumbered = u.reads.unnumbered;
  are_tokens = are_well_formed (sample_text n) u.tokens u.are_tokens (sample_bytes n l);
  reads = u.reads.reads;
  low = u.reads.low;
  are_numbered = u.reads.are_numbered;
} ∣₁

-- a unit of a sample's form has one core
pub sample_core : (n : ℕ) (unit : UnitTree) (core : CoreUnitTree) → 1 ≤ n → n < 512 → IsTail 0 n unit → core_of unit ≡ Some core → core ≡ core_by (names_in unit) n
sample_core n unit core l h t is = same_Some core (core_by (names_in unit) n) (sym is ∙ core_is n unit l h t)

pub samples_are_good : SamplesAreGood
samples_are_good n l h =
    let below : n < 512 = omega arith in
    let sample : IsTypedSample n = sample_is_typed n l below in
    let unit : UnitTree = sample.typed.unit.trees in
    let has_core : HasCore unit = units_have_cores unit (is_read n below sample.typed.unit) sample.typed.well_typed sample.typed.within_limits in
    let is : has_core.core ≡ core_by (names_in unit) n = sample_core n unit has_core.core l below sample.shape has_core.is in
    record {
      short = omega (arith, sample_length n below);
      typed = sample.typed;
      has_core = has_core;
      without_recursion = subst IsWithoutRecursion (sym is) (is_without_recursion (names_in unit) n l);
    }
