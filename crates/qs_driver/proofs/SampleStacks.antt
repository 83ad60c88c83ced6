-- There is a stack for each image of a sample.
use Rattle.std.proofs.Common.{◌≡◌, ℕ, zero, suc, ◌≤◌, ◌<◌, ◌^◌, true, List, [], ◌∷◌, length, None, refl, ap, sym, ◌∙◌, subst, arith}
use Rattle.std.specs.List.{slice_get}
use Rattle.qs_types.specs.Contexts.{start_context}
use Rattle.qs_core.specs.Fits.{unit_fits}
use Rattle.qs_core.specs.Trees.{CoreUnitTree}
use Rattle.qs_core.specs.Interfaces.{types_of_main, main_types}
use Rattle.qs_elaborate_bodies.specs.Names.{FunctionNames, names_in}
use Rattle.qs_elaborate_bodies.specs.Units.{functions_core}
use Rattle.qs_elaborate_limits.specs.Caps.{caps}
use Rattle.qs_analyse.specs.Paths.{IsLongestPath}
use Rattle.qs_assert.specs.declared.define.Amount.TheVariants.{Finite}
use Rattle.qs_image.specs.Image.{Image}
use Rattle.qs_machine.specs.Arguments.{AreArguments}
use Rattle.qs_certify.specs.Bound.{costs_of}
use Rattle.qs_certify.specs.Laws.{HasLongestBound}
use Rattle.qs_certify.proofs.LongestLaws.{bounds_are_longest_paths}
use Rattle.qs_driver_session.specs.SampleSource.{sample_text}
use Rattle.qs_driver_session.proofs.SourceLaws.{same_trees}
use Rattle.qs_driver_session.proofs.SampleTrees.{IsTail}
use Rattle.qs_driver_session.proofs.SampleMeaning.{typed_tail}
use Rattle.qs_driver_session.proofs.SampleGood.{IsTypedSample, sample_is_typed}
use Rattle.qs_driver.specs.Bounds.{IsImageOf, bound_by, costs_in}
use Rattle.qs_driver.specs.Certified.{CertifiedSource, IsCertifiedAs}
use Rattle.qs_driver.specs.SampleLaws.{HasSmallBound, SamplesHaveStacks}
use Rattle.qs_driver.proofs.SampleCore.{core_by}
use Rattle.qs_driver.proofs.SampleBounds.{AreCheap, all_cheap, caps_are_cheap, cheap_below, cheap_at, few_functions, longest_path_is_small}
use Rattle.qs_driver.proofs.SampleLaws.{sample_core}

-- ---- main takes no arguments

none_of_main : (names : List FunctionNames) (j left : ℕ) → types_of_main (slice_get (functions_core names (typed_tail j left)) left) ≡ []
none_of_main [] j zero = refl
none_of_main (n ∷ names) j zero = refl
none_of_main [] j (suc left) = none_of_main [] (suc j) left
none_of_main (n ∷ names) j (suc left) = none_of_main names (suc j) left

no_arguments : (names : List FunctionNames) (n : ℕ) (core : CoreUnitTree) (image : Image) → core ≡ core_by names n → image.parameters ≡ length (main_types core) → AreArguments image []
no_arguments names n core image is parameters = record {
  count = sym (parameters ∙ ap (λ (u : CoreUnitTree). length (main_types u)) is ∙ ap length (none_of_main names 0 n));
  fit = refl;
}

-- ---- the bound

-- what was certified of a sample has the form of samples
shape_of : (n : ℕ) (s : CertifiedSource) → IsTypedSample n → IsCertifiedAs (sample_text n) None s → IsTail 0 n s.unit
shape_of n s sample c =
    subst (IsTail 0 n) (same_trees (sample_text n) sample.typed.unit c.typed_as.typed.unit ∙ c.typed_as.trees_are) sample.shape

-- what is known of what was certified of a sample, and of an image of it
pub record OfSample (n : ℕ) (s : CertifiedSource) (image : Image) : Type 0 where
  pub core : s.core ≡ core_by (names_in s.unit) n
  pub fits : unit_fits s.core ≡ true
  pub few : length s.core.functions < 2 ^ 63
  pub cheap : AreCheap (costs_in image.functions)
  pub arguments : AreArguments image []

pub of_sample : (n : ℕ) (s : CertifiedSource) (image : Image) → 1 ≤ n → n < 512 → IsCertifiedAs (sample_text n) None s → IsImageOf s image → OfSample n s image
of_sample n s image l h c made =
    let shape : IsTail 0 n s.unit = shape_of n s (sample_is_typed n l h) c in
    let names : List FunctionNames = names_in s.unit in
    let core : s.core ≡ core_by names n = sym c.core_is ∙ sample_core n s.unit c.has_core.core l h shape c.has_core.is in
    let built : made.compiled.core ≡ core_by names n = sample_core n s.unit made.compiled.core l h shape made.compiled.core_is in
    record {
      core = core;
      fits = ap unit_fits (sym c.core_is) ∙ c.has_core.fits;
      few = subst (λ (u : CoreUnitTree). length u.functions < 2 ^ 63) (sym core) (few_functions names n h);
      cheap = cheap_below (costs_in image.functions) (caps s.unit) made.compiled.capped (caps_are_cheap start_context shape);
      arguments = no_arguments names n made.compiled.core image built made.compiled.built.parameters;
    }

-- where main's bound is the longest path, a stack can have so many bytes
pub small_bound : (n : ℕ) (s : CertifiedSource) (image : Image) (bound : ℕ) → 1 ≤ n → n < 512 → OfSample n s image → bound_by s (costs_in image.functions) [] ≡ Finite bound
    → IsLongestPath s.core (costs_of (costs_in image.functions)) s.core.main bound → HasSmallBound s image
small_bound n s image bound l h o is path =
    let costs : List ℕ = costs_in image.functions in
    let names : List FunctionNames = names_in s.unit in
    let longest : IsLongestPath (core_by names n) (costs_of costs) n bound = subst (λ (u : CoreUnitTree). IsLongestPath u (costs_of costs) u.main bound) o.core path in
    record {
      arguments = o.arguments;
      stack = bound;
      bound = is;
      small = longest_path_is_small names n (costs_of costs) bound l h (λ f. cheap_at costs f o.cheap) longest;
    }

-- main's bound is the longest path of calls
pub samples_have_stacks : SamplesHaveStacks
samples_have_stacks n s image l h c made =
    let below : n < 512 = omega arith in
    let o : OfSample n s image = of_sample n s image l below c made in
    let longest : HasLongestBound s.core s.proofs (costs_in image.functions) [] =
    bounds_are_longest_paths s.core s.given s.proofs (costs_in image.functions) [] o.fits o.few (all_cheap (costs_in image.functions) o.cheap) c.certified in
    small_bound n s image longest.bound l below o longest.is longest.longest
