-- For which units and places code is selected and emitted, and what their images do.
use Rattle.std.proofs.Common.{◌≡◌, ◌⊎◌, inl, inr, ℕ, zero, suc, ◌+◌, ◌<◌, ◌≤◌, Bool, true, false, List, [], ◌∷◌, length, Option, Some, None, refl, sym, ap, ◌∙◌, subst, arith}
use Rattle.std.specs.Prelude.{nat_le, if◌then◌else◌, sum_by, slice_get, slice_index_or}
use Rattle.std.specs.declared.alloc.Global.{Global}
use Rattle.std.specs.declared.vec.Vec.{Vec}
use Rattle.std.specs.List.{list_all}
use Rattle.std.specs.Option.{option_or}
use Rattle.std.proofs.lemmas.Bool.Decides.{nat_tests}
use Rattle.std.proofs.lemmas.Option.{get_or_from_slice_get, slice_get_within}
use Rattle.qs_asm.specs.declared.item.Item.{Item}
use Rattle.qs_asm.specs.Items.{item_words}
use Rattle.qs_asm.specs.Counting.{HasAssembly}
use Rattle.qs_asm.proofs.CountingLaws.{counted_items_are_assembled}
use Rattle.qs_tac.specs.Trees.{InstructionTree, TacFunctionTree, TacUnitTree}
use Rattle.qs_tac.specs.Fits.{unit_fits}
use Rattle.qs_tac.specs.Laws.{AreAccepted}
use Rattle.qs_tac.specs.Places.{PlacesTree, slots_from, no_places, place_of, slot_count, may_stand, Accepted, own_slots, keep_values}
use Rattle.qs_tac.specs.declared.places.Place.{Place}
use Rattle.qs_tac.specs.declared.places.Place.TheVariants.{Slot, Register}
use Rattle.qs_tac.specs.Sizes.{unit_words}
use Rattle.qs_tac.specs.declared.units.TacData.{TacData}
use Rattle.qs_frames.specs.Layout.{total, layout, largest_frame}
use Rattle.qs_frames.proofs.FrameLaws.{is_rounded}
use Rattle.qs_emit_selection.specs.Data.{data_sizes, data_address}
use Rattle.qs_emit_selection.specs.Emission.{labels_of}
use Rattle.qs_emit_selection.specs.Labels.{label_count}
use Rattle.qs_emit_selection.specs.Laws.{HasFewArguments}
use Rattle.qs_emit_selection.specs.Limits.{most_arguments, passes_few, has_few, starts_with_few, main_has_few, place_fits, places_fit, frame_fits, data_fit, function_fault, functions_fault, first_fault}
use Rattle.qs_emit_selection.specs.Units.{selected}
use Rattle.qs_emit_selection.specs.declared.fault.SelectionFault.{SelectionFault}
use Rattle.qs_emit_selection.specs.declared.fault.SelectionFault.TheVariants as faults
use Rattle.qs_emit_selection.proofs.LabelLaws.{unit_labels_count_up}
use Rattle.qs_emit_selection.proofs.LimitLaws.{IsFree, is_free, none_first}
use Rattle.qs_emit_selection.proofs.Sizes.{functions_keep_words, units_keep_words}
use Rattle.qs_emit.specs.Relation.{no_function, function_at, IsEmittable, data_end}
use Rattle.qs_emit.specs.Emission.{HasFewWords, AllReachWhereFew, ImagesAreEmitted}
use Rattle.qs_emit.proofs.DataBytes.{data_length}
use Rattle.qs_emit.proofs.Passes.{both_true, all_pass, all_short, all_few}
use Rattle.qs_emit.proofs.ImageLaws.{images_follow}

pub within : (n m : ℕ) → n ≤ m → nat_le n m ≡ true
within n m h = grind (arith, nat_tests, h)

-- ---- places

slots_fit : (first count : ℕ) → list_all place_fits (slots_from first count) ≡ true
slots_fit first zero = refl
slots_fit first (suc count) = slots_fit (first + 1) count

standing_fits : (slots : ℕ) (p : Place) → may_stand slots p ≡ true → place_fits p ≡ true
standing_fits slots (Slot k) h = refl
standing_fits slots (Register r) h = grind (arith, nat_tests, h)

all_stand : (places : List Place) → ((t : ℕ) (p : Place) → slice_get places t ≡ Some p → place_fits p ≡ true) → list_all place_fits places ≡ true
all_stand [] h = refl
all_stand (p ∷ places) h = both_true (place_fits p) (list_all place_fits places) (h 0 p refl) (all_stand places (λ t q e. h (suc t) q e))

accepted_fit : (f : TacFunctionTree) (p : PlacesTree) → Accepted f p → places_fit p ≡ true
accepted_fit f p (own_slots own) = ap (list_all place_fits) own ∙ slots_fit 0 f.temporaries
accepted_fit f p (keep_values v) = all_stand p.at (λ t q e.
    let within = slice_get_within p.at t q e in
    let count = v.one_place_each in
    let is : place_of p t ≡ q = get_or_from_slice_get p.at t q (Slot t) e in
    standing_fits (slot_count p) q (ap (may_stand (slot_count p)) (sym is) ∙ v.stand t (omega (arith, within, count))))

-- ---- data

end_within : (ds : List TacData) → data_end ds ≤ total (data_sizes ds)
end_within [] = omega arith
end_within (d ∷ []) = let enough = (is_rounded d.size).enough in omega (arith, enough)
end_within (d ∷ e ∷ ds) = let rest = end_within (e ∷ ds) in omega (arith, rest)

pub data_few : (u : TacUnitTree) → data_fit u ≡ true → data_end u.data_blocks ≤ 16777216
data_few u fits =
    let total_few : total (data_sizes u.data_blocks) ≤ 16777216 = grind (arith, nat_tests, fits) in
    let end = end_within u.data_blocks in
    omega (arith, total_few, end)

-- ---- functions

pub found_or_none : (fs : List TacFunctionTree) (f : ℕ) → (slice_get fs f ≡ Some (slice_index_or fs f no_function)) ⊎ (slice_index_or fs f no_function ≡ no_function)
found_or_none [] f = inr refl
found_or_none (x ∷ fs) zero = inl refl
found_or_none (x ∷ fs) (suc f) = found_or_none fs f

functions_free : (ps : List PlacesTree) (first : ℕ) (gs : List TacFunctionTree) (f : ℕ) → functions_fault ps first gs ≡ None → f < length gs → IsFree (slice_index_or gs f no_function) (slice_index_or ps (first + f) no_places)
functions_free ps first [] f none lt = absurd (omega (arith, lt))
functions_free ps first (g ∷ gs) zero none lt =
    let here = (none_first (function_fault g (slice_index_or ps first no_places)) (functions_fault ps (first + 1) gs) none).0 in
    let same : first ≡ first + 0 = omega arith in
    subst (λ (n : ℕ). IsFree g (slice_index_or ps n no_places)) same (is_free g (slice_index_or ps first no_places) here)
functions_free ps first (g ∷ gs) (suc f) none lt =
    let others = (none_first (function_fault g (slice_index_or ps first no_places)) (functions_fault ps (first + 1) gs) none).1 in
    let same : first + 1 + f ≡ first + suc f = omega arith in
    subst (λ (n : ℕ). IsFree (slice_index_or gs f no_function) (slice_index_or ps n no_places)) same
    (functions_free ps (first + 1) gs f others (omega (arith, lt)))

parts : (b : Bool) (o : Option SelectionFault) (fault : SelectionFault) → (if b then o else Some fault) ≡ None → (b ≡ true) × (o ≡ None)
parts true o fault h = (refl, h)
parts false o fault h = cc

fault_by : (a b c : Bool) → a ≡ true → b ≡ true → c ≡ true
    → (if a then (if b then (if c then None else Some faults.FrameTooLarge) else Some faults.NoRegister) else Some faults.TooManyArguments) ≡ None
fault_by true true true h k l = refl
fault_by true true false h k l = absurd cc
fault_by true false c h k l = absurd cc
fault_by false b c h k l = absurd cc

none_else : (a b : Option SelectionFault) → a ≡ None → b ≡ None → option_or a b ≡ None
none_else None b h k = k
none_else (Some fault) b h k = absurd cc

functions_none :
    (ps : List PlacesTree) (f : ℕ) (gs : List TacFunctionTree)
    → ((i : ℕ) (g : TacFunctionTree) → slice_get gs i ≡ Some g → function_fault g (slice_index_or ps (f + i) no_places) ≡ None)
    → functions_fault ps f gs ≡ None
functions_none ps f [] h = refl
functions_none ps f (g ∷ gs) h =
    let at : f + 0 ≡ f = omega arith in
    none_else (function_fault g (slice_index_or ps f no_places)) (functions_fault ps (f + 1) gs)
    (subst (λ (n : ℕ). function_fault g (slice_index_or ps n no_places) ≡ None) at (h 0 g refl))
    (functions_none ps (f + 1) gs (λ i x is.
    let on : f + suc i ≡ f + 1 + i = omega arith in
    subst (λ (n : ℕ). function_fault x (slice_index_or ps n no_places) ≡ None) on (h (suc i) x is)))

-- ---- units for which code is selected

module _ (u : TacUnitTree) (ps : List PlacesTree) (none : first_fault u ps ≡ None) where
  abbrev behind_data : Option SelectionFault
  behind_data = if main_has_few u then functions_fault ps 0 u.functions else Some faults.TooManyArguments

  pub data_fits : data_fit u ≡ true
  data_fits = (parts (data_fit u) behind_data faults.DataTooLarge none).0

  main_fits : (main_has_few u ≡ true) × (functions_fault ps 0 u.functions ≡ None)
  main_fits = parts (main_has_few u) (functions_fault ps 0 u.functions) faults.TooManyArguments (parts (data_fit u) behind_data faults.DataTooLarge none).1

  main_few : length (function_at u u.main).parameters ≤ 8
  main_few = elim (found_or_none u.functions u.main) [
    | inl is ↦ let few : nat_le (length (function_at u u.main).parameters) 8 ≡ true = ap starts_with_few (sym is) ∙ main_fits.0 in grind (arith, nat_tests, few)
    | inr missing ↦ let nothing = ap (λ (g : TacFunctionTree). length g.parameters) missing in omega (arith, nothing)
  ]

  pub free : (f : ℕ) → f < length u.functions → IsFree (function_at u f) (slice_index_or ps f no_places)
  free f lt =
      let same : 0 + f ≡ f = omega arith in
      subst (λ (n : ℕ). IsFree (function_at u f) (slice_index_or ps n no_places)) same
      (functions_free ps 0 u.functions f main_fits.1 lt)

  -- a function that is there has no fault; one that isn't has nothing
  parameters_few : (f : ℕ) → length (function_at u f).parameters ≤ most_arguments
  parameters_few f = elim (found_or_none u.functions f) [
    | inl is ↦ (free f (slice_get_within u.functions f (function_at u f) is)).parameters
    | inr missing ↦ let nothing = ap (λ (g : TacFunctionTree). length g.parameters) missing in omega (arith, nothing)
  ]

  arguments_few : (f k : ℕ) (i : InstructionTree) → slice_get (function_at u f).code k ≡ Some i → HasFewArguments i
  arguments_few f k i at = elim (found_or_none u.functions f) [
    | inl is ↦ all_short (function_at u f).code (free f (slice_get_within u.functions f (function_at u f) is)).code k i at
    | inr missing ↦ absurd (no_instruction (sym (ap (λ (g : TacFunctionTree). slice_get g.code k) missing) ∙ at))
  ]
    where
      no_instruction : None ≡ Some i → ⊥
      no_instruction h = cc

  pub selected_is_emittable : unit_fits u ≡ true → AreAccepted u ps → IsEmittable u ps
  selected_is_emittable fits accepted = record {
    fits = fits;
    places = accepted;
    cost = λ f lt. (free f lt).cost;
    parameters = parameters_few;
    main_parameters = main_few;
    arguments = arguments_few;
  }

-- ---- units for which code is emitted

module _ (u : TacUnitTree) (ps : List PlacesTree) (h : IsEmittable u ps) where
  function_none : (i : ℕ) (g : TacFunctionTree) → slice_get u.functions i ≡ Some g → function_fault g (slice_index_or ps (0 + i) no_places) ≡ None
  function_none i g is =
      let number : 0 + i ≡ i = omega arith in
      let same : function_at u i ≡ g = get_or_from_slice_get u.functions i g no_function is in
      let parameters = subst (λ (x : TacFunctionTree). length x.parameters ≤ most_arguments) same (h.parameters i) in
      let code = subst (λ (x : TacFunctionTree). (k : ℕ) (j : InstructionTree) → slice_get x.code k ≡ Some j → HasFewArguments j) same (h.arguments i) in
      let slots = accepted_fit g (slice_index_or ps i no_places) (h.places i g is) in
      let cost = subst (λ (x : TacFunctionTree). (layout x (slice_index_or ps i no_places)).cost ≤ largest_frame) same (h.cost i (slice_get_within u.functions i g is)) in
      ap (λ (n : ℕ). function_fault g (slice_index_or ps n no_places)) number
      ∙ fault_by (has_few g) (places_fit (slice_index_or ps i no_places)) (frame_fits g (slice_index_or ps i no_places))
      (both_true (nat_le (length g.parameters) most_arguments) (list_all passes_few g.code) (within (length g.parameters) most_arguments parameters) (all_pass g.code code))
      slots
      (within (layout g (slice_index_or ps i no_places)).cost largest_frame cost)

  main_starts : (o : Option TacFunctionTree) → slice_get u.functions u.main ≡ o → starts_with_few o ≡ true
  main_starts None e = refl
  main_starts (Some g) e =
      let same : function_at u u.main ≡ g = get_or_from_slice_get u.functions u.main g no_function e in
      within (length g.parameters) 8 (subst (λ (x : TacFunctionTree). length x.parameters ≤ 8) same h.main_parameters)

  pub emittable_is_selected : data_fit u ≡ true → first_fault u ps ≡ None
  emittable_is_selected room =
      ap (λ (b : Bool). if b then (if main_has_few u then functions_fault ps 0 u.functions else Some faults.TooManyArguments) else Some faults.DataTooLarge) room
      ∙ (ap (λ (b : Bool). if b then functions_fault ps 0 u.functions else Some faults.TooManyArguments) (main_starts (slice_get u.functions u.main) refl)
      ∙ functions_none ps 0 u.functions function_none)

  pub few_words : (items : Vec Item Global) → items.items ≡ selected u ps → HasFewWords u ps items
  few_words items is = record {
    each = λ f g at. functions_keep_words (record { function = g; places = slice_index_or ps f no_places; data_at = data_address u.data_blocks }) (labels_of u f) f (h.places f g at) (all_few u ps h f g at);
    all = let all = (units_keep_words u ps (data_address u.data_blocks) h.places (all_few u ps h)).items in subst (λ (l : List Item). sum_by item_words l ≤ unit_words u) (sym is) all;
  }

  pub all_reach : (items : Vec Item Global) → items.items ≡ selected u ps → AllReachWhereFew u items
  all_reach items is few =
      let up = unit_labels_count_up u ps (data_address u.data_blocks) h.fits in
      let all = (units_keep_words u ps (data_address u.data_blocks) h.places (all_few u ps h)).items in
      subst HasAssembly (sym is) (counted_items_are_assembled (selected u ps) (label_count u) up.up up.lead (omega (arith, all, few)))

  pub images_are_emitted : data_fit u ≡ true → ImagesAreEmitted u ps
  images_are_emitted room first image memory is short =
      images_follow u ps first image h memory is (record {
        code = short;
        bytes =
            let bytes = ap length is.bytes ∙ data_length (data_address u.data_blocks) first ∙ ap data_end memory.blocks in
            let few = data_few u room in
            omega (arith, bytes, few);
      })
