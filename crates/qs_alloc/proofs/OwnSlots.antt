-- Slots one after the other, and what the test of them says.
use Rattle.std.proofs.Common.{◌≡◌, ℕ, zero, suc, ◌+◌, ◌-◌, ◌<◌, ◌==◌, true, List, [], ◌∷◌, ◌++◌, length, refl, ap, sym, ◌∙◌, subst, append_assoc, arith}
use Rattle.qs_tac.specs.Places.{slots_from}
use Rattle.qs_tac.specs.declared.places.Place.{Place}
use Rattle.qs_tac.specs.declared.places.Place.TheVariants.{Slot, Register}
use Rattle.qs_alloc.specs.Verification.{is_slot, are_in_order, are_own_slots}
use Rattle.qs_alloc.proofs.Tests.{and_true, both_true, same, equal}

-- ---- the loop that makes them

pub slot_goes_on :
    (at more whole : List Place) (count slot : ℕ) → slot < count → more ≡ at ++ Slot slot ∷ []
    → at ++ slots_from slot (count - slot) ≡ whole → more ++ slots_from (slot + 1) (count - (slot + 1)) ≡ whole
slot_goes_on at more whole count slot l new all =
    let next : count - slot ≡ suc (count - (slot + 1)) = omega (arith, l) in
    ap (λ m. m ++ slots_from (slot + 1) (count - (slot + 1))) new
    ∙ (append_assoc at (Slot slot ∷ []) (slots_from (slot + 1) (count - (slot + 1)))
    ∙ (ap (λ n. at ++ slots_from slot n) (sym next) ∙ all))

-- ---- the test

slot_is : (p : Place) (slot : ℕ) → is_slot p slot ≡ true → p ≡ Slot slot
slot_is (Slot k) slot h = ap Slot (same k slot h)
slot_is (Register r) slot h = cc

order_is : (first : ℕ) (places : List Place) → are_in_order first places ≡ true → places ≡ slots_from first (length places)
order_is first [] h = refl
order_is first (p ∷ places) h =
    let t = and_true (is_slot p first) (are_in_order (first + 1) places) h in
    ap (λ q. q ∷ places) (slot_is p first t.0) ∙ ap (λ l. Slot first ∷ l) (order_is (first + 1) places t.1)

slots_in_order : (first count : ℕ) → are_in_order first (slots_from first count) ≡ true
slots_in_order first zero = refl
slots_in_order first (suc count) =
    both_true (first == first) (are_in_order (first + 1) (slots_from (first + 1) count)) (equal first first refl) (slots_in_order (first + 1) count)

pub slots_length : (first count : ℕ) → length (slots_from first count) ≡ count
slots_length first zero = refl
slots_length first (suc count) = ap suc (slots_length (first + 1) count)

pub own_slots_say : (places : List Place) (count : ℕ) → are_own_slots places count ≡ true → places ≡ slots_from 0 count
own_slots_say places count h =
    let t = and_true (length places == count) (are_in_order 0 places) h in
    order_is 0 places t.1 ∙ ap (slots_from 0) (same (length places) count t.0)

pub own_slots_pass : (places : List Place) (count : ℕ) → places ≡ slots_from 0 count → are_own_slots places count ≡ true
own_slots_pass places count h =
    subst (λ (l : List Place). are_own_slots l count ≡ true) (sym h)
    (both_true (length (slots_from 0 count) == count) (are_in_order 0 (slots_from 0 count)) (equal (length (slots_from 0 count)) count (slots_length 0 count))
    (slots_in_order 0 count))
