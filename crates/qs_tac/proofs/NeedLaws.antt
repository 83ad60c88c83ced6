-- What accepted places say of the temporaries that are needed before an instruction.
use Rattle.std.proofs.Common.{◌≡◌, ℕ, zero, suc, ◌+◌, ◌==◌, Bool, true, false, [], slice_index_or, Some, refl, sym, ap, ◌∙◌, subst, inl, inr, arith}
use Rattle.std.specs.Prelude.{Contains}
use Rattle.std.specs.List.{slice_get}
use Rattle.std.proofs.lemmas.Bool.Decides.{nat_tests}
use Rattle.qs_calls.specs.declared.parameter.Parameter.TheVariants.{Plain}
use Rattle.qs_tac.specs.Trees.{InstructionTree, TacFunctionTree}
use Rattle.qs_tac.specs.declared.places.Place.{Place}
use Rattle.qs_tac.specs.declared.places.Place.TheVariants.{Slot, Register}
use Rattle.qs_tac.specs.Holders.{same_place, is_kept}
use Rattle.qs_tac.specs.Uses.{reads, writes}
use Rattle.qs_tac.specs.Liveness.{nexts, is_call, IsNeeded}
use Rattle.qs_tac.specs.Places.{PlacesTree, slots_from, all_slots, place_of, KeepValues, Accepted, own_slots, keep_values, at_entry, at_instruction}

-- ---- slots in order

slot_at : (first count t : ℕ) → slice_index_or (slots_from first count) t (Slot (first + t)) ≡ Slot (first + t)
slot_at first zero t = refl
slot_at first (suc count) zero = ap Slot (omega arith)
slot_at first (suc count) (suc t) =
    let e : first + suc t ≡ first + 1 + t = omega arith in
    ap (λ k. slice_index_or (slots_from (first + 1) count) t (Slot k)) e ∙ slot_at (first + 1) count t ∙ ap Slot (sym e)

pub own_slot : (g : TacFunctionTree) (p : PlacesTree) → p.at ≡ (all_slots g).at → (t : ℕ) → place_of p t ≡ Slot t
own_slot g p own t =
    let zeroth : 0 + t ≡ t = omega arith in
    ap (λ l. slice_index_or l t (Slot t)) own
    ∙ subst (λ (k : ℕ). slice_index_or (slots_from 0 g.temporaries) t (Slot k) ≡ Slot k) zeroth (slot_at 0 g.temporaries t)

slot_same : (k l : ℕ) → Slot k ≡ Slot l → k ≡ l
slot_same k l e = cc

own_apart : (g : TacFunctionTree) (p : PlacesTree) → p.at ≡ (all_slots g).at → (t u : ℕ) → place_of p t ≡ place_of p u → t ≡ u
own_apart g p own t u e = slot_same t u (sym (own_slot g p own t) ∙ e ∙ own_slot g p own u)

-- ---- places

pub same_refl : (p : Place) → same_place p p ≡ true
same_refl (Slot k) = grind (arith, nat_tests)
same_refl (Register r) = grind (arith, nat_tests)

pub place_is : (p q : Place) → same_place p q ≡ true → p ≡ q
place_is (Slot k) (Slot l) h = let e : k ≡ l = grind (arith, nat_tests, h) in ap Slot e
place_is (Slot k) (Register r) h = absurd cc
place_is (Register r) (Slot k) h = absurd cc
place_is (Register r) (Register s) h = let e : r ≡ s = grind (arith, nat_tests, h) in ap Register e

-- where t and x don't share a place, the test of places is the test of numbers
pub one_place : (at : ℕ → Place) (t x : ℕ) → (at t ≡ at x → t ≡ x) → same_place (at t) (at x) ≡ (t == x)
one_place at t x apart = by (t == x) (same_place (at t) (at x)) refl refl
  where
    by : (b c : Bool) → (t == x) ≡ b → same_place (at t) (at x) ≡ c → c ≡ b
    by true true h k = refl
    by false false h k = refl
    by true false h k =
        let is : t ≡ x = grind (arith, nat_tests, h) in
        let self : same_place (at t) (at x) ≡ true = subst (λ (y : ℕ). same_place (at t) (at y) ≡ true) is (same_refl (at t)) in
        absurd cc
    by false true h k =
        let is : t ≡ x = apart (place_is (at t) (at x) k) in
        let self : (t == x) ≡ true = grind (arith, nat_tests, is) in
        absurd cc

-- ---- what is needed before the instruction at an index; with a slot for each temporary all are

abbrev pub Needs : (g : TacFunctionTree) (p : PlacesTree) → Accepted g p → (index temporary : ℕ) → Type 0
Needs g p (own_slots own) q t = Unit {0}
Needs g p (keep_values keep) q t = IsNeeded g.code p.needed q t

pub reads_are_needed :
    (g : TacFunctionTree) (p : PlacesTree) (a : Accepted g p) (i : InstructionTree) (index t : ℕ)
    → slice_get g.code index ≡ Some i → Contains (reads i) t → Needs g p a index t
reads_are_needed g p (own_slots own) i index t here c = tt
reads_are_needed g p (keep_values keep) i index t here c = record { instruction = i; here = here; why = inl c }

needed_after :
    (g : TacFunctionTree) (p : PlacesTree) → KeepValues g p → (i : InstructionTree) (index q t : ℕ)
    → slice_get g.code index ≡ Some i → Contains (nexts i index) q → IsNeeded g.code p.needed q t
    → Contains (slice_index_or p.needed index []) t
needed_after g p keep i index q t here next need =
    keep.closed.flows index q t (record { instruction = i; here = here; next = next }) need

pub needed_before :
    (g : TacFunctionTree) (p : PlacesTree) (a : Accepted g p) (i : InstructionTree) (index q t : ℕ)
    → slice_get g.code index ≡ Some i → Contains (nexts i index) q → Needs g p a q t → ¬ (writes i ≡ Some t)
    → Needs g p a index t
needed_before g p (own_slots own) i index q t here next need other = tt
needed_before g p (keep_values keep) i index q t here next need other =
    record { instruction = i; here = here; why = inr (needed_after g p keep i index q t here next need, other) }

pub needed_apart :
    (g : TacFunctionTree) (p : PlacesTree) (a : Accepted g p) (i : InstructionTree) (index q x t : ℕ)
    → slice_get g.code index ≡ Some i → Contains (nexts i index) q → Needs g p a q t → writes i ≡ Some x
    → place_of p t ≡ place_of p x → t ≡ x
needed_apart g p (own_slots own) i index q x t here next need is e = own_apart g p own t x e
needed_apart g p (keep_values keep) i index q x t here next need is e =
    keep.apart t x
    (at_instruction index
    (record { instruction = i; here = here; why = inl (needed_after g p keep i index q t here next need) })
    (record { instruction = i; here = here; why = inr is }))
    e

pub needed_kept :
    (g : TacFunctionTree) (p : PlacesTree) (a : Accepted g p) (i : InstructionTree) (index q t : ℕ)
    → slice_get g.code index ≡ Some i → Contains (nexts i index) q → Needs g p a q t → is_call i ≡ true
    → is_kept (place_of p t) ≡ true
needed_kept g p (own_slots own) i index q t here next need called = ap is_kept (own_slot g p own t)
needed_kept g p (keep_values keep) i index q t here next need called =
    keep.kept t
    (record { at = index; instruction = i; here = here; is_call = called; needed_after = needed_after g p keep i index q t here next need })

pub entry_apart :
    (g : TacFunctionTree) (p : PlacesTree) (a : Accepted g p) (d t : ℕ) → Contains g.parameters (Plain d) → Needs g p a 0 t
    → place_of p t ≡ place_of p d → t ≡ d
entry_apart g p (own_slots own) d t c need e = own_apart g p own t d e
entry_apart g p (keep_values keep) d t c need e = keep.apart t d (at_entry (inr need) (inl c)) e
