-- The places of names in lists, as a search in code tells them.
use Rattle.std.proofs.Common.{◌≡◌, ℕ, suc, ◌+◌, Bool, true, false, not, List, [], ◌∷◌, Option, Some, None, length, nat_lt, refl, sym, ap, ◌∙◌, arith, if◌then◌else◌, cond}
use Rattle.std.specs.List.{position, position_or_len}
use Rattle.std.proofs.lemmas.Bool.Decides.{nat_tests}
use Rattle.qs_base.specs.Bytes.{same_bytes}
use Rattle.qs_types.proofs.NameLookups.{same_swap}

-- the place of the first name that is this, where they are numbered from k on
abbrev pub place_from : ℕ → List ℕ → List (List ℕ) → Option ℕ
place_from k x [] = None
place_from k x (y ∷ ys) = if same_bytes y x then Some k else place_from (k + 1) x ys

place_step : (k p n : ℕ) → cond (nat_lt p n) (Some (k + 1 + p)) None ≡ cond (nat_lt (1 + p) (suc n)) (Some (k + (1 + p))) None
place_step k p n = grind (arith, nat_tests)

place_first : (k n : ℕ) → Some k ≡ cond (nat_lt 0 (suc n)) (Some (k + 0)) None
place_first k n = grind (arith, nat_tests)

place_is : (k : ℕ) (x : List ℕ) (names : List (List ℕ))
    → place_from k x names ≡ cond (nat_lt (position_or_len (same_bytes x) names) (length names)) (Some (k + position_or_len (same_bytes x) names)) None
place_is k x [] = refl
place_is k x (t ∷ names) =
    ap (λ b. if b then Some k else place_from (k + 1) x names) (same_swap t x) ∙ by (same_bytes x t) (place_is (k + 1) x names)
  where
    by : (b : Bool)
        → place_from (k + 1) x names ≡ cond (nat_lt (position_or_len (same_bytes x) names) (length names)) (Some (k + 1 + position_or_len (same_bytes x) names)) None
        → (if b then Some k else place_from (k + 1) x names)
        ≡ cond (nat_lt (cond (not b) (1 + position_or_len (same_bytes x) names) 0) (suc (length names))) (Some (k + cond (not b) (1 + position_or_len (same_bytes x) names) 0)) None
    by true rest = place_first k (length names)
    by false rest = rest ∙ place_step k (position_or_len (same_bytes x) names) (length names)

from_zero : (p n : ℕ) → cond (nat_lt p n) (Some (0 + p)) None ≡ cond (nat_lt p n) (Some p) None
from_zero p n = grind (arith, nat_tests)

-- the place of a name is the first one at which it stands
pub name_position : (x : List ℕ) (names : List (List ℕ)) → position (same_bytes x) names ≡ place_from 0 x names
name_position x names = sym (place_is 0 x names ∙ from_zero (position_or_len (same_bytes x) names) (length names))
