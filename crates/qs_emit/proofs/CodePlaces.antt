-- Where the code of a unit's functions and instructions lies, and what the unit keeps.
use Rattle.std.proofs.Common.{◌≡◌, ◌⊎◌, inl, inr, ⊎_elim, ℕ, zero, suc, ◌+◌, ◌*◌, ◌%◌, ◌==◌, ◌<◌, ◌≤◌, Bool, true, false, List, [], ◌∷◌, length, Option, Some, refl, sym, ap, ◌∙◌, subst, arith}
use Rattle.std.specs.Prelude.{◌&&◌, if◌then◌else◌, slice_get, slice_index_or, Contains}
use Rattle.std.specs.List.{list_all}
use Rattle.std.proofs.lemmas.List.{length-map}
use Rattle.std.proofs.lemmas.Bool.{cases_eq}
use Rattle.std.proofs.lemmas.Bool.Decides.{nat_tests}
use Rattle.qs_isa.specs.Addresses.{code_start}
use Rattle.qs_isa.specs.declared.instruction.Instr.{Instr}
use Rattle.qs_asm.specs.declared.item.Item.{Item}
use Rattle.qs_asm.specs.declared.item.Item.TheVariants.{Plain, Label, Jump, Branch}
use Rattle.qs_asm.specs.Items.{Lays, plain}
use Rattle.qs_asm.proofs.LaidLaws.{laid_split, takes_words}
use Rattle.qs_tac.specs.Trees.{InstructionTree, TacFunctionTree}
use Rattle.qs_tac.specs.Places.{PlacesTree, place_of, no_places, slot_count, is_for_values, may_stand, Accepted, own_slots, keep_values, at_entry}
use Rattle.qs_tac.specs.Holders.{is_saved_register}
use Rattle.qs_tac.proofs.NeedLaws.{own_slot}
use Rattle.qs_tac.specs.declared.places.Place.{Place}
use Rattle.qs_tac.specs.declared.places.Place.TheVariants.{Slot, Register}
use Rattle.qs_tac.specs.Fits.{instruction_fits, function_fits, parameter_fits}
use Rattle.qs_frames.specs.Layout.{is_among, used_among, saved_registers}
use Rattle.qs_frames.proofs.FrameLaws.{one_place_each, place_got, has_slot}
use Rattle.qs_calls.specs.declared.parameter.Parameter.TheVariants.{Plain as plain_parameter}
use Rattle.qs_emit_selection.specs.Operands.{Context}
use Rattle.qs_emit_selection.specs.Emission.{Labels, enter, epilogue, is_end, items_at, instruction_items, body_items, function_items, first_label, labels_of, functions_items, start_items}
use Rattle.qs_emit_selection.specs.Data.{data_address}
use Rattle.qs_emit_selection.proofs.Sizes.{words_are_kept}
use Rattle.qs_emit.specs.Machine.{instruction_at}
use Rattle.qs_emit.specs.Relation.{no_function, function_at, context, Setup, entry, place, IsAmong, HasPlace}
use Rattle.qs_emit.proofs.FrameLaws.{saved_cases, used_stored}
use Rattle.qs_emit.proofs.Steps.{HasAt, Fits}
use Rattle.qs_emit.proofs.Passes.{few_there}

-- ---- items

-- plain items are code, and where they end
pub record IsCode (at : ℕ → Option Instr) (from : ℕ) (code : List Instr) (to : ℕ) : Type 0 where
  pub has : HasAt at from code
  pub end : from + 4 * length code ≡ to

pub plain_laid : (at : ℕ → Option Instr) (label : ℕ → ℕ) (from : ℕ) (code : List Instr) (to : ℕ) → Lays at label from (plain code) to → IsCode at from code to
plain_laid at label from [] to h = record { has = tt; end = omega (arith, h) }
plain_laid at label from (i ∷ code) to h = let k = plain_laid at label (from + 4) code to h.1 in let e = k.end in record { has = (h.0, k.has); end = omega (arith, e) }

aligned_end : (at : ℕ → Option Instr) (label : ℕ → ℕ) (from : ℕ) (items : List Item) (to : ℕ) → from % 4 ≡ 0 → Lays at label from items to → to % 4 ≡ 0
aligned_end at label from [] to al h = omega (arith, al, h)
aligned_end at label from (Plain i ∷ items) to al h = aligned_end at label (from + 4) items to (omega (arith, al)) h.1
aligned_end at label from (Label l ∷ items) to al h = aligned_end at label from items to al h.1
aligned_end at label from (Jump rd l ∷ items) to al h = aligned_end at label (from + 4) items to (omega (arith, al)) h.1
aligned_end at label from (Branch kind a b l ∷ items) to al (inl h) = aligned_end at label (from + 4) items to (omega (arith, al)) h.1
aligned_end at label from (Branch kind a b l ∷ items) to al (inr h) = aligned_end at label (from + 8) items to (omega (arith, al)) h.1.1

pub goes_up : (at : ℕ → Option Instr) (label : ℕ → ℕ) (from : ℕ) (items : List Item) (to : ℕ) → Lays at label from items to → from ≤ to
goes_up at label from items to h = (takes_words at label from items to h).on

-- ---- bodies

-- the code of an instruction lies in a place, and only the last instruction is the last one
pub record IsStood (at : ℕ → Option Instr) (label : ℕ → ℕ) (c : Context) (labels : Labels) (from : ℕ) (i : InstructionTree) (to : ℕ) (ended : Type 0) : Type 0 where
  pub is_last : Bool
  pub lays : Lays at label from (items_at c labels is_last i) to
  pub ends : is_last ≡ true → ended

module _ (at : ℕ → Option Instr) (label : ℕ → ℕ) (c : Context) (labels : Labels) where
  -- each instruction lies between its label and the next
  record HasBody (k : ℕ) (code : List InstructionTree) (from to : ℕ) : Type 0 where
    first : label (labels.instruction k) ≡ from
    stands : (j : ℕ) (i : InstructionTree) → slice_get code j ≡ Some i → IsStood at label c labels (label (labels.instruction (k + j))) i (label (labels.instruction (k + j + 1))) (j + 1 ≡ length code)
    aligned : (j : ℕ) → j ≤ length code → label (labels.instruction (k + j)) % 4 ≡ 0
    low : (j : ℕ) → j ≤ length code → label (labels.instruction (k + j)) ≤ to
    epilogue_there : Lays at label (label (labels.instruction (k + length code))) (plain (epilogue c)) to

  -- the last instruction is the one behind which nothing comes
  end_length : (code : List InstructionTree) → is_end code ≡ true → length code ≡ 0
  end_length [] e = refl
  end_length (i ∷ code) e = cc

  body_laid : (k : ℕ) (code : List InstructionTree) (from to : ℕ) → from % 4 ≡ 0 → Lays at label from (body_items c labels k code) to → HasBody k code from to
  body_laid k [] from to al h =
      let up = goes_up at label from (plain (epilogue c)) to h.1 in
      let here : k + 0 ≡ k = omega arith in
      let first = h.0 in
      record {
        first = h.0;
        stands = λ j i e. cc;
        aligned = λ j le. let z : k + j ≡ k = omega (arith, le) in ap (λ (n : ℕ). label (labels.instruction n) % 4) z ∙ ap (λ (n : ℕ). n % 4) h.0 ∙ al;
        low = λ j le. let z : k + j ≡ k = omega (arith, le) in let e = ap (λ (n : ℕ). label (labels.instruction n)) z in omega (arith, e, first, up);
        epilogue_there = subst (λ (x : ℕ). Lays at label x (plain (epilogue c)) to) (sym (ap (λ (n : ℕ). label (labels.instruction n)) here ∙ h.0)) h.1;
      }
  body_laid k (i ∷ code) from to al h =
      let sp = laid_split at label from (items_at c labels (is_end code) i) (body_items c labels (k + 1) code) to h.1 in
      rest sp.middle sp.front sp.back (body_laid (k + 1) code sp.middle to (aligned_end at label from (items_at c labels (is_end code) i) sp.middle al sp.front) sp.back)
    where
      rest : (middle : ℕ) → Lays at label from (items_at c labels (is_end code) i) middle → Lays at label middle (body_items c labels (k + 1) code) to → HasBody (k + 1) code middle to → HasBody k (i ∷ code) from to
      rest middle front back b = record {
        first = h.0;
        stands = stands;
        aligned = aligned;
        low = low;
        epilogue_there = subst (λ (n : ℕ). Lays at label (label (labels.instruction n)) (plain (epilogue c)) to) (next (length code)) b.epilogue_there;
      }
        where
          next : (j : ℕ) → k + 1 + j ≡ k + suc j
          next j = omega arith

          here : k + 0 ≡ k
          here = omega arith

          stands : (j : ℕ) (d : InstructionTree) → slice_get (i ∷ code) j ≡ Some d → IsStood at label c labels (label (labels.instruction (k + j))) d (label (labels.instruction (k + j + 1))) (j + 1 ≡ length (i ∷ code))
          stands zero d e =
              let same : i ≡ d = cc in
              let start : label (labels.instruction (k + 0)) ≡ from = ap (λ (n : ℕ). label (labels.instruction n)) here ∙ h.0 in
              let one : k + 1 ≡ k + 0 + 1 = omega arith in
              let end : middle ≡ label (labels.instruction (k + 0 + 1)) = sym b.first ∙ ap (λ (n : ℕ). label (labels.instruction n)) one in
              record {
                is_last = is_end code;
                lays =
                    subst (λ (x : ℕ). Lays at label x (items_at c labels (is_end code) d) (label (labels.instruction (k + 0 + 1)))) (sym start)
                    (subst (λ (x : ℕ). Lays at label from (items_at c labels (is_end code) d) x) end
                    (subst (λ (x : InstructionTree). Lays at label from (items_at c labels (is_end code) x) middle) same front));
                ends = λ l. let z = end_length code l in omega (arith, z);
              }
          stands (suc j) d e =
              let n = next j in
              let n1 : k + 1 + j + 1 ≡ k + suc j + 1 = omega arith in
              let there = b.stands j d e in
              record {
                is_last = there.is_last;
                lays =
                    subst (λ (x : ℕ). Lays at label (label (labels.instruction x)) (items_at c labels there.is_last d) (label (labels.instruction (k + suc j + 1)))) n
                    (subst (λ (x : ℕ). Lays at label (label (labels.instruction (k + 1 + j))) (items_at c labels there.is_last d) (label (labels.instruction x))) n1 there.lays);
                ends = λ l. let z = there.ends l in omega (arith, z);
              }

          aligned : (j : ℕ) → j ≤ length (i ∷ code) → label (labels.instruction (k + j)) % 4 ≡ 0
          aligned zero le = ap (λ (n : ℕ). label (labels.instruction n) % 4) here ∙ ap (λ (n : ℕ). n % 4) h.0 ∙ al
          aligned (suc j) le = ap (λ (n : ℕ). label (labels.instruction n) % 4) (sym (next j)) ∙ b.aligned j (omega (arith, le))

          low : (j : ℕ) → j ≤ length (i ∷ code) → label (labels.instruction (k + j)) ≤ to
          low zero le =
              let e : label (labels.instruction (k + 0)) ≡ from = ap (λ (n : ℕ). label (labels.instruction n)) here ∙ h.0 in
              let up = goes_up at label from (items_at c labels (is_end code) i) middle front in
              let more = goes_up at label middle (body_items c labels (k + 1) code) to back in
              omega (arith, e, up, more)
          low (suc j) le = subst (λ (n : ℕ). label (labels.instruction n) ≤ to) (next j) (b.low j (omega (arith, le)))

-- ---- registers in which values stand

-- a register in which a temporary stands is used
is_used : (places : List Place) (t r : ℕ) → slice_get places t ≡ Some (Register r) → is_among places r ≡ true
is_used [] t r e = absurd cc
is_used (p ∷ places) zero r e =
    let is : p ≡ Register r = cc in
    let same : (r == r) ≡ true = grind (arith, nat_tests) in
    ap (λ q. is_among (q ∷ places) r) is ∙ ap (λ (b : Bool). if b then true else is_among places r) same
is_used (Slot k ∷ places) (suc t) r e = is_used places t r e
is_used (Register q ∷ places) (suc t) r e = by (q == r) (is_used places t r e)
  where
    by : (b : Bool) → is_among places r ≡ true → (if b then true else is_among places r) ≡ true
    by true h = refl
    by false h = h

used_here : (places : List Place) (registers : List ℕ) (r : ℕ) → is_among places r ≡ true → IsAmong registers r → IsAmong (used_among places registers) r
used_here places [] r used h = h
used_here places (q ∷ registers) r used h = by (λ k. used_here places registers r used k) h (is_among places q) refl
  where
    at_first : r ≡ q → is_among places q ≡ true
    at_first e = ap (is_among places) (sym e) ∙ used

    by : (IsAmong registers r → IsAmong (used_among places registers) r) → (r ≡ q) ⊎ IsAmong registers r → (b : Bool) → is_among places q ≡ b → IsAmong (if b then q ∷ used_among places registers else used_among places registers) r
    by more (inl e) true t = inl e
    by more (inl e) false t = let no_way : true ≡ false = sym (at_first e) ∙ t in absurd cc
    by more (inr k) true t = inr (more k)
    by more (inr k) false t = more k

next_among : (q r : ℕ) (registers : List ℕ) → ((r ≡ q → ⊥) → IsAmong registers r) → IsAmong (q ∷ registers) r
next_among q r registers more = ⊎_elim (λ e. inl e) (λ n. inr (more n)) (cases_eq r q)

abbrev row : (first count : ℕ) → List ℕ
row first zero = []
row first (suc count) = first ∷ row (first + 1) count

in_row : (first count r : ℕ) → first ≤ r → r < first + count → IsAmong (row first count) r
in_row first zero r lo hi = absurd (omega (arith, lo, hi))
in_row first (suc count) r lo hi =
    next_among first r (row (first + 1) count) (λ n. let more : first + 1 ≤ r = grind (arith, lo, n) in in_row (first + 1) count r more (omega (arith, hi)))

-- the list has all registers that a function gives back
all_saved : (r : ℕ) → is_saved_register r ≡ true → IsAmong saved_registers r
all_saved r h = by (saved_cases r h)
  where
    by : (r ≡ 8) ⊎ ((r ≡ 9) ⊎ ((18 ≤ r) × (r ≤ 27))) → IsAmong (8 ∷ 9 ∷ row 18 10) r
    by (inl e) = inl e
    by (inr (inl e)) = inr (inl e)
    by (inr (inr k)) = let lo = k.0 in let hi = k.1 in inr (inr (in_row 18 10 r lo (omega (arith, hi))))

-- ---- functions

module _ (s : Setup) where
  abbrev at : ℕ → Option Instr
  at = instruction_at s.image

  record Found (f : ℕ) : Type 0 where
    from : ℕ
    to : ℕ
    lays : Lays at s.label_at from (function_items (context s f) (labels_of s.unit f) f) to
    aligned : from % 4 ≡ 0
    low : to ≤ s.code_end

  abbrev context_of : (g : TacFunctionTree) → (f : ℕ) → Context
  context_of g f = record { function = g; places = slice_index_or s.places f no_places; data_at = data_address s.unit.data_blocks }

  found_among : (functions : List TacFunctionTree) (first i from to : ℕ) → Lays at s.label_at from (functions_items s.unit s.places (data_address s.unit.data_blocks) first functions) to → from % 4 ≡ 0 → to ≤ s.code_end → i < length functions → ((j : ℕ) → j < length functions → slice_index_or functions j no_function ≡ function_at s.unit (first + j)) → Found (first + i)
  found_among [] first i from to h al low lt same = absurd (omega (arith, lt))
  found_among (g ∷ functions) first i from to h al low lt same =
      let sp = laid_split at s.label_at from (function_items (context_of g first) (labels_of s.unit first) first) (functions_items s.unit s.places (data_address s.unit.data_blocks) (first + 1) functions) to h in
      by i lt sp.middle sp.front sp.back
      (λ j lt. found_among functions (first + 1) j sp.middle to sp.back (aligned_end at s.label_at from (function_items (context_of g first) (labels_of s.unit first) first) sp.middle al sp.front) low lt
      (λ k lt. same (suc k) (omega (arith, lt)) ∙ ap (function_at s.unit) (shift k)))
    where
      shift : (k : ℕ) → first + suc k ≡ first + 1 + k
      shift k = omega arith

      by : (i : ℕ) → i < length (g ∷ functions) → (middle : ℕ) → Lays at s.label_at from (function_items (context_of g first) (labels_of s.unit first) first) middle → Lays at s.label_at middle (functions_items s.unit s.places (data_address s.unit.data_blocks) (first + 1) functions) to → ((j : ℕ) → j < length functions → Found (first + 1 + j)) → Found (first + i)
      by zero lt middle front back more =
          let z : first ≡ first + 0 = omega arith in
          let is : g ≡ function_at s.unit first = same 0 (omega arith) ∙ ap (function_at s.unit) (sym z) in
          let up = goes_up at s.label_at middle (functions_items s.unit s.places (data_address s.unit.data_blocks) (first + 1) functions) to back in
          subst (λ (n : ℕ). Found n) z
          (record { from = from; to = middle; lays = subst (λ (x : TacFunctionTree). Lays at s.label_at from (function_items (context_of x first) (labels_of s.unit first) first) middle) is front; aligned = al; low = omega (arith, up, low) })
      by (suc i) lt middle front back more = subst (λ (n : ℕ). Found n) (sym (shift i)) (more i (omega (arith, lt)))

  found : (f : ℕ) → f < length s.unit.functions → Found f
  found f lt =
      let sp = laid_split at s.label_at code_start (start_items s.unit) (functions_items s.unit s.places (data_address s.unit.data_blocks) 0 s.unit.functions) s.code_end s.laid in
      let al = aligned_end at s.label_at code_start (start_items s.unit) sp.middle (omega arith) sp.front in
      let z : (n : ℕ) → 0 + n ≡ n = λ n. omega arith in
      subst (λ (n : ℕ). Found n) (z f) (found_among s.unit.functions 0 f sp.middle s.code_end sp.back al (omega arith) lt (λ j h. ap (function_at s.unit) (sym (z j))))

  -- the code of a function
  pub record HasFunction (f : ℕ) : Type 0 where
    pub begins : Lays at s.label_at (entry s f) (plain (enter (context s f))) (place s f 0)
    pub stands : (k : ℕ) (i : InstructionTree) → slice_get (function_at s.unit f).code k ≡ Some i → IsStood at s.label_at (context s f) (labels_of s.unit f) (place s f k) i (place s f (k + 1)) (k + 1 ≡ length (function_at s.unit f).code)
    pub body_end : ℕ
    pub epilogue_there : Lays at s.label_at (place s f (length (function_at s.unit f).code)) (plain (epilogue (context s f))) body_end
    pub end_low : body_end ≤ s.code_end
    pub entry_aligned : entry s f % 4 ≡ 0
    pub entry_low : entry s f ≤ s.code_end
    pub place_aligned : (k : ℕ) → k ≤ length (function_at s.unit f).code → place s f k % 4 ≡ 0
    pub place_low : (k : ℕ) → k ≤ length (function_at s.unit f).code → place s f k ≤ s.code_end

  pub has_function : (f : ℕ) → f < length s.unit.functions → HasFunction f
  has_function f lt =
      let g = found f lt in
      let code = (function_at s.unit f).code in
      let sp = laid_split at s.label_at g.from (plain (enter (context s f))) (body_items (context s f) (labels_of s.unit f) 0 code) g.to g.lays.1 in
      let al = aligned_end at s.label_at g.from (plain (enter (context s f))) sp.middle g.aligned sp.front in
      whole g.from g.to sp.middle g.lays.0 g.aligned g.low sp.front sp.back (body_laid at s.label_at (context s f) (labels_of s.unit f) 0 code sp.middle g.to al sp.back)
    where
      z : (n : ℕ) → 0 + n ≡ n
      z n = omega arith

      whole : (from to middle : ℕ) → s.label_at (first_label s.unit.functions f) ≡ from → from % 4 ≡ 0 → to ≤ s.code_end → Lays at s.label_at from (plain (enter (context s f))) middle → Lays at s.label_at middle (body_items (context s f) (labels_of s.unit f) 0 (function_at s.unit f).code) to → HasBody at s.label_at (context s f) (labels_of s.unit f) 0 (function_at s.unit f).code middle to → HasFunction f
      whole from to middle first al low front back b = record {
        begins = subst (λ (x : ℕ). Lays at s.label_at x (plain (enter (context s f))) (place s f 0)) (sym first) (subst (λ (x : ℕ). Lays at s.label_at from (plain (enter (context s f))) x) (sym b.first) front);
        stands = λ k i e.
            subst (λ (x : ℕ). IsStood at s.label_at (context s f) (labels_of s.unit f) (place s f x) i (place s f (k + 1)) (k + 1 ≡ length (function_at s.unit f).code)) (z k)
            (subst (λ (x : ℕ). IsStood at s.label_at (context s f) (labels_of s.unit f) (place s f (0 + k)) i (place s f (x + 1)) (k + 1 ≡ length (function_at s.unit f).code)) (z k) (b.stands k i e));
        body_end = to;
        epilogue_there = subst (λ (x : ℕ). Lays at s.label_at (place s f x) (plain (epilogue (context s f))) to) (z (length (function_at s.unit f).code)) b.epilogue_there;
        end_low = low;
        entry_aligned = ap (λ (n : ℕ). n % 4) first ∙ al;
        entry_low =
            let up = goes_up at s.label_at from (plain (enter (context s f))) middle front in
            let more = goes_up at s.label_at middle (body_items (context s f) (labels_of s.unit f) 0 (function_at s.unit f).code) to back in
            omega (arith, first, up, more, low);
        place_aligned = λ k le. subst (λ (x : ℕ). place s f x % 4 ≡ 0) (z k) (b.aligned k le);
        place_low = λ k le. let e = b.low k le in let f = subst (λ (x : ℕ). place s f x ≤ to) (z k) e in omega (arith, f, low);
      }

  -- code between two places fits
  pub fits_between : (from to n : ℕ) → from % 4 ≡ 0 → to ≤ s.code_end → from + 4 * n ≤ to → Fits from n
  fits_between from to n al low le = let short = s.short in record { aligned = al; low = omega (arith, low, le, short) }

  -- ---- what the unit keeps

  pub function_there : (f : ℕ) → f < length s.unit.functions → slice_get s.unit.functions f ≡ Some (function_at s.unit f)
  function_there f lt = among s.unit.functions f lt
    where
      among : (functions : List TacFunctionTree) (f : ℕ) → f < length functions → slice_get functions f ≡ Some (slice_index_or functions f no_function)
      among [] f lt = absurd (omega (arith, lt))
      among (g ∷ functions) zero lt = refl
      among (g ∷ functions) (suc f) lt = among functions f (omega (arith, lt))

  pub all_pass : {A : Type 0} (test : A → Bool) (list : List A) (i : ℕ) (x : A) → list_all test list ≡ true → slice_get list i ≡ Some x → test x ≡ true
  all_pass test [] i x h e = cc
  all_pass test (y ∷ list) zero x h e = let same : y ≡ x = cc in ap test (sym same) ∙ first (test y) (list_all test list) h
    where
      first : (a b : Bool) → a && b ≡ true → a ≡ true
      first true b k = refl
      first false b k = cc
  all_pass test (y ∷ list) (suc i) x h e = all_pass test list i x (second (test y) (list_all test list) h) e
    where
      second : (a b : Bool) → a && b ≡ true → b ≡ true
      second true b k = k
      second false b k = cc

  both_left : (a b : Bool) → a && b ≡ true → a ≡ true
  both_left true b h = refl
  both_left false b h = cc

  both_right : (a b : Bool) → a && b ≡ true → b ≡ true
  both_right true b h = h
  both_right false b h = cc

  pub function_fits_there : (f : ℕ) → f < length s.unit.functions → function_fits s.unit (function_at s.unit f) ≡ true
  function_fits_there f lt = all_pass (function_fits s.unit) s.unit.functions f (function_at s.unit f) (both_left _ _ (both_left _ _ s.emittable.fits)) (function_there f lt)

  pub instruction_fits_there : (f k : ℕ) (i : InstructionTree) → f < length s.unit.functions → slice_get (function_at s.unit f).code k ≡ Some i → instruction_fits s.unit (function_at s.unit f) i ≡ true
  instruction_fits_there f k i lt e = all_pass (instruction_fits s.unit (function_at s.unit f)) (function_at s.unit f).code k i (both_right _ _ (function_fits_there f lt)) e

  pub parameters_fit_there : (f : ℕ) → f < length s.unit.functions → list_all (parameter_fits (function_at s.unit f)) (function_at s.unit f).parameters ≡ true
  parameters_fit_there f lt = both_left _ _ (both_left _ _ (function_fits_there f lt))

  accepted_there : (f : ℕ) → f < length s.unit.functions → Accepted (function_at s.unit f) (context s f).places
  accepted_there f lt = s.emittable.places f (function_at s.unit f) (function_there f lt)

  -- each temporary stands in a place that the frame has
  pub has_place : (f : ℕ) → f < length s.unit.functions → (t : ℕ) → t < (function_at s.unit f).temporaries → HasPlace (context s f) (place_of (context s f).places t)
  has_place f lt t h = by (place_of (context s f).places t) refl
    where
      p : PlacesTree
      p = (context s f).places

      for_values : (r : ℕ) → place_of p t ≡ Register r → Accepted (function_at s.unit f) p → is_for_values r ≡ true
      for_values r is (own_slots own) = absurd (no_register (sym (own_slot (function_at s.unit f) p own t) ∙ is))
        where
          no_register : Slot t ≡ Register r → ⊥
          no_register e = cc
      for_values r is (keep_values v) = ap (may_stand (slot_count p)) (sym is) ∙ v.stand t h

      by : (q : Place) → place_of p t ≡ q → HasPlace (context s f) q
      by (Slot k) is = has_slot (function_at s.unit f) p (accepted_there f lt) t k h is
      by (Register r) is =
          let count = one_place_each (function_at s.unit f) p (accepted_there f lt) in (
            for_values r is (accepted_there f lt),
            λ saved. used_stored (context s f) r (used_here p.at saved_registers r (is_used p.at t r (place_got p t (omega (arith, count, h)) ∙ ap Some is)) (all_saved r saved)),
          )

  -- parameters stand apart
  pub parameters_apart : (f : ℕ) → f < length s.unit.functions → (t x : ℕ) → Contains (function_at s.unit f).parameters (plain_parameter t) → Contains (function_at s.unit f).parameters (plain_parameter x) → place_of (context s f).places t ≡ place_of (context s f).places x → t ≡ x
  parameters_apart f lt t x c d e = by (accepted_there f lt)
    where
      slot_same : Slot t ≡ Slot x → t ≡ x
      slot_same i = cc

      by : Accepted (function_at s.unit f) (context s f).places → t ≡ x
      by (own_slots own) = slot_same (sym (own_slot (function_at s.unit f) (context s f).places own t) ∙ (e ∙ own_slot (function_at s.unit f) (context s f).places own x))
      by (keep_values v) = v.apart t x (at_entry (inl c) (inl d)) e

  -- an instruction is at least one of the machine's
  pub some_code : (f : ℕ) → f < length s.unit.functions → (code : List Instr) (i : InstructionTree) → instruction_items (context s f) (labels_of s.unit f) i ≡ plain code → 1 ≤ length code
  some_code f lt code i e =
      let accepted = s.emittable.places f (function_at s.unit f) (function_there f lt) in
      let k = (words_are_kept (context s f) (labels_of s.unit f) accepted (few_there s.unit s.places s.emittable f)).some i in
      let l : length (plain code) ≡ length code = length-map code Plain in
      let m : length (instruction_items (context s f) (labels_of s.unit f) i) ≡ length (plain code) = ap length e in
      omega (arith, k, l, m)
