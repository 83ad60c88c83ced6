-- The lowest bytes of a word, written over the bytes that stand at a place.
use Rattle.std.proofs.Common.{◌≡◌, ℕ, zero, suc, ◌+◌, ◌/◌, ◌%◌, ◌^◌, ◌≤◌, List, [], ◌∷◌, ◌++◌, length, take, drop, slice_set, refl, sym, ap, ap₂, ◌∙◌, arith, length-drop}
use Rattle.std.proofs.lemmas.List.{take-append-drop, take-set-le, drop-set-add}
use Rattle.qs_machine.specs.Bytes.{put_2, put_4}

-- bytes put behind a front
abbrev set_2 : List ℕ → ℕ → ℕ → ℕ → List ℕ
set_2 xs at a b = slice_set (slice_set xs (at + 0) a) (at + 1) b

abbrev set_4 : List ℕ → ℕ → ℕ → ℕ → ℕ → ℕ → List ℕ
set_4 xs at a b c d = slice_set (slice_set (set_2 xs at a b) (at + 2) c) (at + 3) d

-- the front stays
one_front : (xs : List ℕ) (at i v : ℕ) → take at (slice_set xs (at + i) v) ≡ take at xs
one_front xs at i v = take-set-le at xs (at + i) v (omega arith)

two_front : (xs : List ℕ) (at a b : ℕ) → take at (set_2 xs at a b) ≡ take at xs
two_front xs at a b = one_front (slice_set xs (at + 0) a) at 1 b ∙ one_front xs at 0 a

two_behind : (xs : List ℕ) (at a b : ℕ) → drop at (set_2 xs at a b) ≡ slice_set (slice_set (drop at xs) 0 a) 1 b
two_behind xs at a b = drop-set-add at (slice_set xs (at + 0) a) 1 b ∙ ap (λ (l : List ℕ). slice_set l 1 b) (drop-set-add at xs 0 a)

four_behind : (xs : List ℕ) (at a b c d : ℕ) → drop at (set_4 xs at a b c d) ≡ slice_set (slice_set (slice_set (slice_set (drop at xs) 0 a) 1 b) 2 c) 3 d
four_behind xs at a b c d =
    drop-set-add at (slice_set (set_2 xs at a b) (at + 2) c) 3 d
    ∙ ap (λ (l : List ℕ). slice_set l 3 d) (drop-set-add at (set_2 xs at a b) 2 c)
    ∙ ap (λ (l : List ℕ). slice_set (slice_set l 2 c) 3 d) (two_behind xs at a b)

-- a list, by its front and what is behind it
parts : (l front behind : List ℕ) (at : ℕ) → take at l ≡ front → drop at l ≡ behind → front ++ behind ≡ l
parts l front behind at f g = sym (ap₂ (λ (x y : List ℕ). x ++ y) f g) ∙ take-append-drop at l

over_2 : (ys : List ℕ) (k a b : ℕ) → 2 ≤ k → 2 ≤ length ys → (a ∷ b ∷ drop 2 (take k ys)) ++ drop k ys ≡ slice_set (slice_set ys 0 a) 1 b
over_2 [] k a b few long = absurd (omega arith)
over_2 (x ∷ []) k a b few long = absurd (omega arith)
over_2 (x ∷ y ∷ zs) zero a b few long = absurd (omega arith)
over_2 (x ∷ y ∷ zs) (suc zero) a b few long = absurd (omega arith)
over_2 (x ∷ y ∷ zs) (suc (suc k)) a b few long = ap (λ (l : List ℕ). a ∷ b ∷ l) (take-append-drop k zs)

over_4 : (ys : List ℕ) (k a b c d : ℕ) → 4 ≤ k → 4 ≤ length ys → (a ∷ b ∷ c ∷ d ∷ drop 4 (take k ys)) ++ drop k ys ≡ slice_set (slice_set (slice_set (slice_set ys 0 a) 1 b) 2 c) 3 d
over_4 [] k a b c d few long = absurd (omega arith)
over_4 (x ∷ []) k a b c d few long = absurd (omega arith)
over_4 (x ∷ y ∷ []) k a b c d few long = absurd (omega arith)
over_4 (x ∷ y ∷ z ∷ []) k a b c d few long = absurd (omega arith)
over_4 (x ∷ y ∷ z ∷ u ∷ us) zero a b c d few long = absurd (omega arith)
over_4 (x ∷ y ∷ z ∷ u ∷ us) (suc zero) a b c d few long = absurd (omega arith)
over_4 (x ∷ y ∷ z ∷ u ∷ us) (suc (suc zero)) a b c d few long = absurd (omega arith)
over_4 (x ∷ y ∷ z ∷ u ∷ us) (suc (suc (suc zero))) a b c d few long = absurd (omega arith)
over_4 (x ∷ y ∷ z ∷ u ∷ us) (suc (suc (suc (suc k)))) a b c d few long = ap (λ (l : List ℕ). a ∷ b ∷ c ∷ d ∷ l) (take-append-drop k us)

put_2-set : (xs : List ℕ) (at value : ℕ) → set_2 xs at (value % 65536 % 256) (value % 65536 / 256 % 256) ≡ put_2 xs at value
put_2-set xs at value =
    let low : value % 65536 % 256 ≡ value % 2 ^ 8 = omega arith in
    let high : value % 65536 / 256 % 256 ≡ value / 2 ^ 8 % 2 ^ 8 = omega arith in
    let here : at + 0 ≡ at = omega arith in
    rw (low, high, here) refl

put_4-set : (xs : List ℕ) (at value : ℕ) → set_4 xs at (value % 256) (value / 256 % 256) (value / 65536 % 256) (value / 16777216 % 256) ≡ put_4 xs at value
put_4-set xs at value =
    let high : value / 16777216 % 256 ≡ value / 2 ^ 16 / 2 ^ 8 % 2 ^ 8 = omega arith in
    let here : at + 0 ≡ at = omega arith in
    let last : at + 3 ≡ at + 2 + 1 = omega arith in
    rw (high, here, last) refl

-- the low half, and the word
pub half_is_put : (xs part : List ℕ) (at k value : ℕ) → part ≡ value % 65536 % 256 ∷ value % 65536 / 256 % 256 ∷ drop 2 (take k (drop at xs)) → at + 2 ≤ length xs → 2 ≤ k → take at xs ++ (part ++ drop k (drop at xs)) ≡ put_2 xs at value
half_is_put xs part at k value e fits few =
    let a = value % 65536 % 256 in
    let b = value % 65536 / 256 % 256 in
    let long : 2 ≤ length (drop at xs) = let l = length-drop at xs in omega arith in
    ap (λ (p : List ℕ). take at xs ++ (p ++ drop k (drop at xs))) e
    ∙ ap (λ (l : List ℕ). take at xs ++ l) (over_2 (drop at xs) k a b few long)
    ∙ parts (set_2 xs at a b) (take at xs) _ at (two_front xs at a b) (two_behind xs at a b)
    ∙ put_2-set xs at value

pub word_is_put : (xs part : List ℕ) (at k value : ℕ) → part ≡ value % 256 ∷ value / 256 % 256 ∷ value / 65536 % 256 ∷ value / 16777216 % 256 ∷ drop 4 (take k (drop at xs)) → at + 4 ≤ length xs → 4 ≤ k → take at xs ++ (part ++ drop k (drop at xs)) ≡ put_4 xs at value
word_is_put xs part at k value e fits few =
    let a = value % 256 in
    let b = value / 256 % 256 in
    let c = value / 65536 % 256 in
    let d = value / 16777216 % 256 in
    let long : 4 ≤ length (drop at xs) = let l = length-drop at xs in omega arith in
    let front : take at (set_4 xs at a b c d) ≡ take at xs =
    one_front (slice_set (set_2 xs at a b) (at + 2) c) at 3 d ∙ one_front (set_2 xs at a b) at 2 c ∙ two_front xs at a b in
    ap (λ (p : List ℕ). take at xs ++ (p ++ drop k (drop at xs))) e
    ∙ ap (λ (l : List ℕ). take at xs ++ l) (over_4 (drop at xs) k a b c d few long)
    ∙ parts (set_4 xs at a b c d) (take at xs) _ at front (four_behind xs at a b c d)
    ∙ put_4-set xs at value
