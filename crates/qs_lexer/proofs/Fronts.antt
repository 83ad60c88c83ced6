-- Which fronts of a list have a shape.
use Rattle.std.proofs.Common.{◌≡◌, ℕ, ◌+◌, ◌<◌, ◌≤◌, zero, suc, Bool, true, false, cond, ◌&&◌, List, [], ◌∷◌, Option, Some, None, length, take, refl, sym, ◌∙◌, arith, nat_le, ◌==◌}
use Rattle.std.proofs.lemmas.Bool.Decides.{nat_tests}
use Rattle.std.specs.List.{list_all, prefix_len}
use Rattle.qs_lexer.specs.Bytes.{is_empty}
use Rattle.qs_lexer.specs.Ends.{Turn, Goes, Ends, Fails, closes, closes_after, end_of, end_after, later}
use Rattle.qs_lexer.specs.Pieces.{Longest, NoFront}

-- whether an end is at m
abbrev pub is_at : ℕ → Option ℕ → Bool
is_at m None = false
is_at m (Some n) = m == n

and_cases : (b c : Bool) (m n : ℕ) → c ≡ nat_le m n → (b && c) ≡ nat_le (suc m) (cond b (1 + n) 0)
and_cases true c m n h = grind (arith, nat_tests)
and_cases false c m n h = grind (arith, nat_tests)

pub list_all_take : (p : ℕ → Bool) (xs : List ℕ) (m : ℕ) → m ≤ length xs → list_all p (take m xs) ≡ nat_le m (prefix_len p xs)
list_all_take p xs zero h = grind (arith, nat_tests)
list_all_take p [] (suc m) h = absurd (omega arith)
list_all_take p (x ∷ xs) (suc m) h = and_cases (p x) (list_all p (take m xs)) m (prefix_len p xs) (list_all_take p xs m (omega arith))

at_later : (m : ℕ) (o : Option ℕ) → is_at (suc m) (later 1 o) ≡ is_at m o
at_later m None = refl
at_later m (Some n) = grind (arith, nat_tests)

not_at_zero : (t : Turn) (go : Bool → Option ℕ) → is_at 0 (end_after t go) ≡ false
not_at_zero (Goes t) go = later_not_zero (go t)
  where
    later_not_zero : (o : Option ℕ) → is_at 0 (later 1 o) ≡ false
    later_not_zero None = refl
    later_not_zero (Some n) = grind (arith, nat_tests)
not_at_zero Ends go = refl
not_at_zero Fails go = refl

empty_take : (m : ℕ) (xs : List ℕ) → m ≤ length xs → is_empty (take m xs) ≡ (suc m == 1)
empty_take zero xs h = refl
empty_take (suc m) [] h = absurd (omega arith)
empty_take (suc m) (x ∷ xs) h = grind (arith, nat_tests)

closes_turn : (u : Turn) (go : Bool → Bool) (find : Bool → Option ℕ) (m : ℕ) (xs : List ℕ) → m ≤ length xs → ((t : Bool) → go t ≡ is_at m (find t))
    → closes_after u go (is_empty (take m xs)) ≡ is_at (suc m) (end_after u find)
closes_turn (Goes t) go find m xs h e = e t ∙ sym (at_later m (find t))
closes_turn Ends go find m xs h e = empty_take m xs h
closes_turn Fails go find m xs h e = refl

pub closes_take : (turn : Bool → ℕ → Turn) (s : Bool) (xs : List ℕ) (m : ℕ) → m ≤ length xs → closes turn s (take m xs) ≡ is_at m (end_of turn s xs)
closes_take turn s [] zero h = refl
closes_take turn s (x ∷ xs) zero h = sym (not_at_zero (turn s x) (λ t. end_of turn t xs))
closes_take turn s [] (suc m) h = absurd (omega arith)
closes_take turn s (x ∷ xs) (suc m) h = closes_turn (turn s x) (λ t. closes turn t (take m xs)) (λ t. end_of turn t xs) m xs (omega arith) (λ t. closes_take turn t xs m (omega arith))

-- an end lies within
end_turn : (u : Turn) (find : Bool → Option ℕ) (n k : ℕ) → ((t : Bool) (j : ℕ) → find t ≡ Some j → j ≤ k) → end_after u find ≡ Some n → n ≤ suc k
end_turn (Goes t) find n k h e = later_within (find t) (h t) e
  where
    later_within : (o : Option ℕ) → ((j : ℕ) → o ≡ Some j → j ≤ k) → later 1 o ≡ Some n → n ≤ suc k
    later_within None h e = cc
    later_within (Some j) h e = let i : j ≤ k = h j refl in let d : 1 + j ≡ n = cc in omega arith
end_turn Ends find n k h e = let d : 1 ≡ n = cc in omega arith
end_turn Fails find n k h e = cc

pub end_within : (turn : Bool → ℕ → Turn) (s : Bool) (xs : List ℕ) (n : ℕ) → end_of turn s xs ≡ Some n → n ≤ length xs
end_within turn s [] n e = cc
end_within turn s (x ∷ xs) n e = end_turn (turn s x) (λ t. end_of turn t xs) n (length xs) (λ t j d. end_within turn t xs j d) e

-- a longest front is the only one
pub longest_one : (s : List ℕ → Bool) (rest : List ℕ) (m n : ℕ) → Longest s rest m → Longest s rest n → m ≡ n
longest_one s rest m n a b =
    let f : m < n → ⊥ = λ h. clash (a.no_longer n h b.within) b.has in
    let g : n < m → ⊥ = λ h. clash (b.no_longer m h a.within) a.has in
    omega arith
  where
    clash : {x : Bool} → x ≡ false → x ≡ true → ⊥
    clash p q = cc

pub front_or_none : (s : List ℕ → Bool) (rest : List ℕ) (n : ℕ) → Longest s rest n → NoFront s rest → ⊥
front_or_none s rest n a b = let h : s (take n rest) ≡ false = b n a.within in let k : s (take n rest) ≡ true = a.has in cc

-- from an equation for the shape of each front
pub longest_of_le : (s : List ℕ → Bool) (rest : List ℕ) (n : ℕ) → n ≤ length rest → ((m : ℕ) → m ≤ length rest → n ≤ m → s (take m rest) ≡ nat_le m n) → Longest s rest n
longest_of_le s rest n h e = record {
  within = h;
  has = let f = e n h (omega arith) in grind (arith, nat_tests);
  no_longer = λ m a b. let f = e m b (omega arith) in grind (arith, nat_tests);
}

pub longest_of_at : (s : List ℕ → Bool) (rest : List ℕ) (n : ℕ) → n ≤ length rest → ((m : ℕ) → m ≤ length rest → n ≤ m → s (take m rest) ≡ (m == n)) → Longest s rest n
longest_of_at s rest n h e = record {
  within = h;
  has = let f = e n h (omega arith) in grind (arith, nat_tests);
  no_longer = λ m a b. let f = e m b (omega arith) in grind (arith, nat_tests);
}

-- the same form under another name
pub longest_same : (s t : List ℕ → Bool) (rest : List ℕ) (n : ℕ) → ((m : ℕ) → s (take m rest) ≡ t (take m rest)) → Longest s rest n → Longest t rest n
longest_same s t rest n same longest = record {
  within = longest.within;
  has = sym (same n) ∙ longest.has;
  no_longer = λ m more low. sym (same m) ∙ longest.no_longer m more low;
}
