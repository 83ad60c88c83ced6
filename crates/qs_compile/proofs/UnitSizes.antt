-- A unit within the limits passes no size of images.
use Rattle.std.proofs.Common.{◌≡◌, ℕ, ◌+◌, ◌/◌, ◌*◌, ◌≤◌, List, [], ◌∷◌, map, Some, true, refl, ap, ◌∙◌, arith}
use Rattle.std.specs.Prelude.{All}
use Rattle.std.proofs.lemmas.List.Elements.{All-nil, All-cons, All-head, All-tail}
use Rattle.std.proofs.lemmas.List.Sums.{sum_by-cons}
use Rattle.qs_syntax.specs.Trees.{UnitTree}
use Rattle.qs_syntax.specs.Units.{IsRead}
use Rattle.qs_types.specs.Layout.{rounded_up}
use Rattle.qs_types.specs.Limits.{word_size, IsWithinLimits}
use Rattle.qs_types.specs.WellTyped.{WellTyped}
use Rattle.qs_core.specs.Trees.{CoreFunctionTree, CoreUnitTree}
use Rattle.qs_core.specs.Fits.{unit_fits}
use Rattle.qs_core.specs.Sizes.{values, held_in_all}
use Rattle.qs_elaborate_bodies.specs.Units.{core_of}
use Rattle.qs_elaborate_limits.specs.Measures.{bytes_in_words, data_end, data_size}
use Rattle.qs_elaborate_limits.specs.Laws.{held_limit}
use Rattle.qs_elaborate_limits.proofs.CoreUnits.{functions_are_few, parameters_are_few, code_is_small, held_values_are_few}
use Rattle.qs_elaborate_limits.proofs.MainParameters.{main_parameters_are_few}
use Rattle.qs_elaborate_limits.proofs.CoreBytes.{placed_bytes_are_few, data_bytes_are_few}
use Rattle.qs_elaborate_limits.proofs.ValueLimits.{values_are_limited}
use Rattle.qs_lower.specs.WordLaws.{IsInReach}
use Rattle.qs_frames.specs.Layout.{rounded, total}
use Rattle.qs_compile.specs.Small.{most_block_bytes, most_values, IsSmall}
use Rattle.qs_compile.proofs.SmallUnits.{small_units_pass_no_size}
use Rattle.qs_compile.specs.Compiled.{UnitsPassNoSize}
use Rattle.qs_compile.specs.Names.{HasRoomForNames}
use Rattle.qs_compile.proofs.CoreNames.{core_name_bytes}

-- what holds of each where more holds of each
pub all_more : {A : Type 0} (P Q : A → Type 0) (xs : List A) → ((x : A) → P x → Q x) → All P xs → All Q xs
all_more P Q [] h all = All-nil Q
all_more P Q (x ∷ xs) h all = All-cons Q x xs (h x (All-head P x xs all)) (all_more P Q xs h (All-tail P x xs all))

-- blocks in words are blocks in multiples of 4
word_rounded : (n : ℕ) → rounded_up n word_size ≡ rounded n
unfolding rounded
word_rounded n = refl

pub words_total : (sizes : List ℕ) → bytes_in_words sizes ≡ total sizes
words_total [] = refl
words_total (size ∷ sizes) =
    sum_by-cons (λ n. rounded_up n word_size) size sizes
    ∙ (ap (λ n. n + bytes_in_words sizes) (word_rounded size) ∙ ap (λ n. rounded size + n) (words_total sizes))

-- where the last block ends is where they end but for a gap
end_total : (sizes : List ℕ) → total sizes ≡ (data_end sizes + 3) / 4 * 4
unfolding rounded
end_total [] = refl
end_total (size ∷ []) = omega arith
end_total (size ∷ next ∷ sizes) =
    let e : total (next ∷ sizes) ≡ (data_end (next ∷ sizes) + 3) / 4 * 4 = end_total (next ∷ sizes) in
    let r = word_rounded size in
    omega (arith, e, r)

pub data_total : (sizes : List ℕ) → data_end sizes ≤ 16777216 → total sizes ≤ 16777216
data_total sizes h = let e = end_total sizes in omega (arith, e, h)

pub units_are_small :
    (unit : UnitTree) (core : CoreUnitTree) → IsRead unit → WellTyped unit → IsWithinLimits unit → core_of unit ≡ Some core
    → HasRoomForNames unit → IsSmall core
units_are_small unit core read well limits is room = record {
  functions = functions_are_few unit core read well limits is;
  names = let same = core_name_bytes unit core is in omega (arith, same, room);
  parameters = parameters_are_few unit core read well limits is;
  main_parameters = main_parameters_are_few unit core read well limits is;
  blocks =
      all_more (λ (f : CoreFunctionTree). bytes_in_words f.blocks ≤ 1048576) (λ (f : CoreFunctionTree). total f.blocks ≤ most_block_bytes) core.functions
      (λ f h. let e = words_total f.blocks in omega (arith, e, h)) (placed_bytes_are_few unit core read well limits is);
  values =
      all_more (λ (f : CoreFunctionTree). values f ≤ 30000) (λ (f : CoreFunctionTree). values f ≤ most_values) core.functions
      (λ f h. omega (arith, h)) (values_are_limited unit core read well limits is);
  held =
      all_more (λ (f : CoreFunctionTree). held_in_all f.body ≤ held_limit) IsInReach core.functions
      (λ f h. omega (arith, h)) (held_values_are_few unit core read well limits is);
  code = let few = code_is_small unit core read well limits is in omega (arith, few);
  data_bytes = data_total (map data_size core.data_blocks) (data_bytes_are_few unit core read well limits is);
}

module _ (fits : (unit : UnitTree) (core : CoreUnitTree) → IsRead unit → WellTyped unit → IsWithinLimits unit → core_of unit ≡ Some core → unit_fits core ≡ true) where
  pub passes_none : UnitsPassNoSize
  passes_none unit core fault read well limits is room h =
      small_units_pass_no_size core fault (fits unit core read well limits is) (units_are_small unit core read well limits is room) h
