-- Slots numbered one after the other.
use Rattle.std.proofs.Common.{◌≡◌, ℕ, zero, suc, ◌+◌, ◌<◌, ◌≤◌, List, [], ◌∷◌, ◌++◌, take, length, get_or, refl, sym, ap, ◌∙◌, arith}
use Rattle.std.proofs.lemmas.List.{take_more}
use Rattle.qs_tac.specs.declared.places.Place.{Place}
use Rattle.qs_tac.specs.declared.places.Place.TheVariants.{Slot, Register}
use Rattle.qs_tac.specs.Places.{slots_among}
use Rattle.qs_alloc.specs.Lists.{dense}
use Rattle.qs_alloc.specs.Registers.{place_of}

dense_push : (k : ℕ) (at : List Place) (p : Place) → dense k (at ++ p ∷ []) ≡ dense k at ++ dense (k + slots_among at) (p ∷ [])
dense_push k [] p = ap (λ (n : ℕ). dense n (p ∷ [])) (plus_zero k)
  where
    plus_zero : (n : ℕ) → n ≡ n + 0
    plus_zero n = omega arith
dense_push k (Slot s ∷ at) p = ap (λ xs. Slot k ∷ xs) (dense_push (k + 1) at p ∙ ap (λ (n : ℕ). dense (k + 1) at ++ dense n (p ∷ [])) (turned k (slots_among at)))
  where
    turned : (a b : ℕ) → a + 1 + b ≡ a + suc b
    turned a b = omega arith
dense_push k (Register r ∷ at) p = ap (λ xs. Register r ∷ xs) (dense_push k at p)

pub dense_more : (at : List Place) (i : ℕ) → i < length at → dense 0 (take (i + 1) at) ≡ dense 0 (take i at) ++ dense (slots_among (take i at)) (get_or at i (Slot 0) ∷ [])
dense_more at i l =
    let z : 0 + slots_among (take i at) ≡ slots_among (take i at) = omega arith in
    ap (dense 0) (take_more at i (Slot 0) l) ∙ dense_push 0 (take i at) (get_or at i (Slot 0)) ∙ ap (λ (n : ℕ). dense 0 (take i at) ++ dense n (get_or at i (Slot 0) ∷ [])) z

pub numbered_more : (at : List Place) (i next : ℕ) (place : Place) (now new : List Place) → i < length at → next ≡ slots_among (take i at) → now ≡ dense 0 (take i at) → place ∷ [] ≡ dense next (get_or at i (Slot 0) ∷ []) → new ≡ now ++ place ∷ [] → new ≡ dense 0 (take (i + 1) at)
numbered_more at i next place now new l a e f g =
    g ∙ ap (λ xs. xs ++ place ∷ []) e ∙ ap (λ xs. dense 0 (take i at) ++ xs) (f ∙ ap (λ (n : ℕ). dense n (get_or at i (Slot 0) ∷ [])) a) ∙ sym (dense_more at i l)

pub dense_length : (k : ℕ) (at : List Place) → length (dense k at) ≡ length at
dense_length k [] = refl
dense_length k (Slot s ∷ at) = ap suc (dense_length (k + 1) at)
dense_length k (Register r ∷ at) = ap suc (dense_length k at)

pub dense_slots : (k : ℕ) (at : List Place) → slots_among (dense k at) ≡ slots_among at
dense_slots k [] = refl
dense_slots k (Slot s ∷ at) = ap suc (dense_slots (k + 1) at)
dense_slots k (Register r ∷ at) = dense_slots k at

pub dense_register : (k : ℕ) (at : List Place) (t r : ℕ) → place_of at t ≡ Register r → place_of (dense k at) t ≡ Register r
dense_register k [] t r e = absurd (cc)
dense_register k (Slot s ∷ at) zero r e = absurd (cc)
dense_register k (Slot s ∷ at) (suc t) r e = dense_register (k + 1) at t r e
dense_register k (Register s ∷ at) zero r e = e
dense_register k (Register s ∷ at) (suc t) r e = dense_register k at t r e

pub from_register : (k : ℕ) (at : List Place) (t r : ℕ) → place_of (dense k at) t ≡ Register r → place_of at t ≡ Register r
from_register k [] t r e = absurd (cc)
from_register k (Slot s ∷ at) zero r e = absurd (cc)
from_register k (Slot s ∷ at) (suc t) r e = from_register (k + 1) at t r e
from_register k (Register s ∷ at) zero r e = e
from_register k (Register s ∷ at) (suc t) r e = from_register k at t r e

pub from_slot : (k : ℕ) (at : List Place) (t j : ℕ) → place_of (dense k at) t ≡ Slot j → (i : ℕ) × (place_of at t ≡ Slot i)
from_slot k [] t j e = (0, refl)
from_slot k (Slot s ∷ at) zero j e = (s, refl)
from_slot k (Slot s ∷ at) (suc t) j e = from_slot (k + 1) at t j e
from_slot k (Register s ∷ at) zero j e = absurd (cc)
from_slot k (Register s ∷ at) (suc t) j e = from_slot k at t j e

slot_number : (a b : ℕ) → Slot a ≡ Slot b → a ≡ b
slot_number a b e = cc

pub slot_low : (k : ℕ) (at : List Place) (t j : ℕ) → t < length at → place_of (dense k at) t ≡ Slot j → k ≤ j
slot_low k [] t j l e = absurd (omega arith)
slot_low k (Slot s ∷ at) zero j l e = let f = slot_number k j e in omega arith
slot_low k (Slot s ∷ at) (suc t) j l e = let h = slot_low (k + 1) at t j (omega arith) e in omega arith
slot_low k (Register s ∷ at) zero j l e = absurd (cc)
slot_low k (Register s ∷ at) (suc t) j l e = slot_low k at t j (omega arith) e

pub slot_high : (k : ℕ) (at : List Place) (t j : ℕ) → t < length at → place_of (dense k at) t ≡ Slot j → j < k + slots_among at
slot_high k [] t j l e = absurd (omega arith)
slot_high k (Slot s ∷ at) zero j l e = let f = slot_number k j e in omega arith
slot_high k (Slot s ∷ at) (suc t) j l e = let h = slot_high (k + 1) at t j (omega arith) e in omega arith
slot_high k (Register s ∷ at) zero j l e = absurd (cc)
slot_high k (Register s ∷ at) (suc t) j l e = slot_high k at t j (omega arith) e

-- no two temporaries in one slot
pub slot_once : (k : ℕ) (at : List Place) (t u j : ℕ) → t < length at → u < length at → place_of (dense k at) t ≡ Slot j → place_of (dense k at) u ≡ Slot j → t ≡ u
slot_once k [] t u j l m e f = absurd (omega arith)
slot_once k (Slot s ∷ at) zero zero j l m e f = refl
slot_once k (Slot s ∷ at) zero (suc u) j l m e f = let a = slot_number k j e in let b = slot_low (k + 1) at u j (omega arith) f in absurd (omega arith)
slot_once k (Slot s ∷ at) (suc t) zero j l m e f = let a = slot_number k j f in let b = slot_low (k + 1) at t j (omega arith) e in absurd (omega arith)
slot_once k (Slot s ∷ at) (suc t) (suc u) j l m e f = ap suc (slot_once (k + 1) at t u j (omega arith) (omega arith) e f)
slot_once k (Register s ∷ at) zero u j l m e f = absurd (cc)
slot_once k (Register s ∷ at) (suc t) zero j l m e f = absurd (cc)
slot_once k (Register s ∷ at) (suc t) (suc u) j l m e f = ap suc (slot_once k at t u j (omega arith) (omega arith) e f)

slots_push : (xs : List Place) (p : Place) → slots_among (xs ++ p ∷ []) ≡ slots_among xs + slots_among (p ∷ [])
slots_push [] (Slot k) = refl
slots_push [] (Register r) = refl
slots_push (Slot l ∷ xs) p = let e = slots_push xs p in omega arith
slots_push (Register l ∷ xs) p = slots_push xs p

pub slots_more : (at : List Place) (i : ℕ) → i < length at → slots_among (take (i + 1) at) ≡ slots_among (take i at) + slots_among (get_or at i (Slot 0) ∷ [])
slots_more at i l = ap slots_among (take_more at i (Slot 0) l) ∙ slots_push (take i at) (get_or at i (Slot 0))
