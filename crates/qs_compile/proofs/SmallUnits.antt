-- A unit that is small enough passes no size.
use Rattle.std.proofs.Common.{◌≡◌, ℕ, zero, suc, ◌<◌, ◌≤◌, true, List, [], ◌∷◌, length, map, Some, None, refl, sym, ap, ◌∙◌, subst, arith}
use Rattle.std.specs.Prelude.{slice_index_or, sum_by, All}
use Rattle.std.specs.List.{slice_get}
use Rattle.std.proofs.lemmas.List.Elements.{All-head, All-tail}
use Rattle.qs_memory.proofs.Options.{some_same}
use Rattle.qs_asm.specs.Items.{item_words}
use Rattle.qs_asm.specs.Counting.{reached_words}
use Rattle.qs_core.specs.Trees.{CoreFunctionTree, DataBlockTree, CoreUnitTree}
use Rattle.qs_core.specs.Units.{data_block}
use Rattle.qs_core.specs.Fits.{unit_fits}
use Rattle.qs_core.specs.Sizes as core
use Rattle.qs_machine.specs.State.{stack_limit}
use Rattle.qs_tac.specs.Trees.{TacFunctionTree, TacUnitTree}
use Rattle.qs_tac.specs.Laws.{AreAccepted}
use Rattle.qs_tac.specs.Places.{PlacesTree, no_places, Accepted}
use Rattle.qs_tac.specs.Sizes as tac
use Rattle.qs_lower.specs.Units.{lower_data}
use Rattle.qs_lower.specs.WordLaws.{lowered_function, IsInReach, UnitKeepsSizes}
use Rattle.qs_lower.proofs.UnitWords.{lowered_sizes_are_kept}
use Rattle.qs_frames.specs.Layout.{total, layout}
use Rattle.qs_frames.proofs.FrameLaws.{frames_are_laid_out, no_more_is_kept}
use Rattle.qs_emit_selection.specs.Laws.{PassesFew}
use Rattle.qs_emit_selection.specs.Data.{data_sizes, data_address}
use Rattle.qs_emit_selection.specs.Limits.{largest_data, first_fault}
use Rattle.qs_emit_selection.specs.Units.{selected}
use Rattle.qs_emit_selection.specs.declared.fault.SelectionFault.{SelectionFault}
use Rattle.qs_emit_selection.specs.declared.fault.SelectionFault.TheVariants as selection
use Rattle.qs_emit_selection.proofs.Sizes.{units_keep_words}
use Rattle.qs_emit.specs.Relation.{cost_at, IsEmittable}
use Rattle.qs_emit.proofs.EmissionLaws.{within, emittable_is_selected}
use Rattle.qs_compile.specs.Units.{linear}
use Rattle.qs_compile.specs.Limits.{IsRefused, Passes}
use Rattle.qs_compile.specs.Small.{most_block_bytes, most_values, IsSmall, SmallUnitsPassNoSize}
use Rattle.qs_compile.specs.declared.fault.BuildFault.{BuildFault}
use Rattle.qs_compile.specs.declared.fault.BuildFault.TheVariants.{NoMemory, TooManyFunctions, NamesTooLong, TooManyParameters, FrameTooLarge, DataTooLarge, CodeTooLong}
use Rattle.qs_compile.proofs.FitLaws.{function_found, accepted_of, all_pass_few, emittable}

-- ---- lists

pub all_found : {A : Type 0} (P : A → Type 0) (xs : List A) (i : ℕ) (x : A) → All P xs → slice_get xs i ≡ Some x → P x
all_found P [] i x all is = absurd (cc)
all_found P (y ∷ ys) zero x all is = subst P (some_same y x is) (All-head P y ys all)
all_found P (y ∷ ys) (suc i) x all is = all_found P ys i x (All-tail P y ys all) is

-- a function with this number
pub record Stands (fs : List CoreFunctionTree) (i : ℕ) : Type 0 where
  pub function : CoreFunctionTree
  pub is : slice_get fs i ≡ Some function

pub stands : (fs : List CoreFunctionTree) (i : ℕ) → i < length fs → Stands fs i
stands [] i h = absurd (omega (arith, h))
stands (f ∷ fs) zero h = record { function = f; is = refl }
stands (f ∷ fs) (suc i) h = let s = stands fs i (omega (arith, h)) in record { function = s.function; is = s.is }

-- ---- frames and data

frame_is_small : (g : TacFunctionTree) (p : PlacesTree) → Accepted g p → total g.blocks ≤ most_block_bytes → tac.values g ≤ most_values → PassesFew g → (layout g p).cost ≤ stack_limit
frame_is_small g p accepted blocks values passes =
    let bound = (frames_are_laid_out g p).bound in
    let few = no_more_is_kept g p accepted in
    omega (arith, bound, few, blocks, values, passes)

sizes_same : (ds : List DataBlockTree) → data_sizes (map lower_data ds) ≡ map (λ (d : DataBlockTree). (data_block d).size) ds
sizes_same [] = refl
sizes_same (d ∷ ds) = ap (λ (l : List ℕ). (data_block d).size ∷ l) (sizes_same ds)

-- ---- units

module _ (u : CoreUnitTree) (fits : unit_fits u ≡ true) where
  abbrev t : TacUnitTree
  t = linear u

  keeps : UnitKeepsSizes u
  keeps = lowered_sizes_are_kept u fits

  -- what the function with this number costs, with its values in these places
  pub cost_is : (ps : List PlacesTree) (i : ℕ) (f : CoreFunctionTree) → slice_get u.functions i ≡ Some f → cost_at t ps i ≡ (layout (lowered_function f) (slice_index_or ps i no_places)).cost
  cost_is ps i f there =
      let here = keeps.there i f there in
      let function = function_found t.functions i (lowered_function f) here in
      ap (λ (g : TacFunctionTree). (layout g (slice_index_or ps i no_places)).cost) function

  pub accepted_at : (ps : List PlacesTree) → AreAccepted t ps → (i : ℕ) (f : CoreFunctionTree) → slice_get u.functions i ≡ Some f → Accepted (lowered_function f) (slice_index_or ps i no_places)
  accepted_at ps accepted i f there = accepted i (lowered_function f) (keeps.there i f there)

  module _ (small : IsSmall u) (ps : List PlacesTree) (accepted : AreAccepted t ps) where
    frame_small : (f : ℕ) → f < length u.functions → cost_at t ps f ≤ stack_limit
    frame_small f lt =
        let s = stands u.functions f lt in
        let sizes = keeps.function f s.function s.is in
        let blocks = all_found (λ (g : CoreFunctionTree). total g.blocks ≤ most_block_bytes) u.functions f s.function small.blocks s.is in
        let values = all_found (λ (g : CoreFunctionTree). core.values g ≤ most_values) u.functions f s.function small.values s.is in
        let less = sizes.values in
        let same = cost_is ps f s.function s.is in
        let few =
        frame_is_small (lowered_function s.function) (slice_index_or ps f no_places) (accepted_at ps accepted f s.function s.is) (subst (λ (l : List ℕ). total l ≤ most_block_bytes) (sym sizes.blocks) blocks) (omega (arith, less, values)) (all_pass_few u fits small.parameters f (lowered_function s.function) (keeps.there f s.function s.is)) in
        omega (arith, same, few)

    emitted : IsEmittable t ps
    emitted = emittable u fits small.parameters small.main_parameters ps accepted frame_small

    no_selection_fault : first_fault t ps ≡ None
    no_selection_fault =
        emittable_is_selected t ps emitted
        (within _ largest_data (subst (λ (l : List ℕ). total l ≤ largest_data) (sym (sizes_same u.data_blocks)) small.data_bytes))

    code_is_short : sum_by item_words (selected t ps) < reached_words
    code_is_short =
        let items = (units_keep_words t ps (data_address t.data_blocks) emitted.places (all_pass_few u fits small.parameters)).items in
        let words = keeps.words (λ f g is. all_found IsInReach u.functions f g small.held is) in
        let code = small.code in
        omega (arith, items, words, code)

  module _ (small : IsSmall u) where
    none_refused : (fault : SelectionFault) → IsRefused u fault → ⊥
    none_refused fault h = let both : None ≡ Some fault = sym (no_selection_fault small h.places (accepted_of t h.places h.packed)) ∙ h.is in cc

    pub passes_no_size : (fault : BuildFault) → Passes u fault → fault ≡ NoMemory
    passes_no_size NoMemory h = refl
    passes_no_size TooManyFunctions h = let few = small.functions in absurd (omega (arith, h, few))
    passes_no_size NamesTooLong h = let short = small.names in absurd (omega (arith, h, short))
    passes_no_size TooManyParameters h = absurd (none_refused selection.TooManyArguments h)
    passes_no_size FrameTooLarge h = absurd (none_refused selection.FrameTooLarge h)
    passes_no_size DataTooLarge h = absurd (none_refused selection.DataTooLarge h)
    passes_no_size CodeTooLong h = let short = code_is_short small h.places (accepted_of t h.places h.packed) in let long = h.long in absurd (omega (arith, long, short))

pub small_units_pass_no_size : SmallUnitsPassNoSize
small_units_pass_no_size u fault fits small h = passes_no_size u fits small fault h
