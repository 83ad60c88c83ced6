-- Lists from their ends.
use Rattle.std.proofs.Common.{◌≡◌, ◌≤◌, ℕ, ◌-◌, List, ◌++◌, length, take, drop, reverse, ap, ◌∙◌, sym, arith, inl, inr}
use Rattle.std.proofs.Math.ListN.{drop_of_length-le}
use Rattle.std.proofs.Math.Seq.{drop-append_seam}
use Rattle.std.proofs.lemmas.Bool.{cases_lt}
use Rattle.std.proofs.lemmas.List.{reverse-append, length-reverse, length-drop, take-append-drop}

parted : {A : Type 0} (xs : List A) (k : ℕ) → reverse xs ≡ reverse (drop k xs) ++ reverse (take k xs)
parted xs k = ap reverse (sym (take-append-drop k xs)) ∙ reverse-append (take k xs) (drop k xs)

back_length : {A : Type 0} (xs : List A) (n : ℕ) → n ≤ length xs → length (reverse (drop (length xs - n) xs)) ≡ n
back_length xs n h = length-reverse (drop (length xs - n) xs) ∙ (length-drop (length xs - n) xs ∙ (let e : length xs - (length xs - n) ≡ n = omega arith in e))

-- the front of a stack is taken off at the list's end
pub cut_off : {A : Type 0} (xs : List A) (n : ℕ) → reverse (take (length xs - n) xs) ≡ drop n (reverse xs)
cut_off xs n = elim (cases_lt (length xs) n) [
  | inl h ↦
      let none : length xs - n ≡ 0 = omega arith in
      let short : length (reverse xs) ≤ n = omega (arith, length-reverse xs) in
      ap (λ k. reverse (take k xs)) none ∙ sym (drop_of_length-le (reverse xs) short)
  | inr h ↦
      sym (ap (drop n) (parted xs (length xs - n)) ∙ (ap (λ m. drop m (reverse (drop (length xs - n) xs) ++ reverse (take (length xs - n) xs))) (sym (back_length xs n h)) ∙ drop-append_seam (reverse (drop (length xs - n) xs)) (reverse (take (length xs - n) xs))))
]

pub cut_at : {A : Type 0} (xs ys : List A) (n m k : ℕ) → m ≡ length xs → k ≡ m - n → ys ≡ take k xs → reverse ys ≡ drop n (reverse xs)
cut_at xs ys n m k e f h =
    ap reverse h ∙ (ap (λ j. reverse (take j xs)) (let g : k ≡ length xs - n = omega arith in g) ∙ cut_off xs n)
