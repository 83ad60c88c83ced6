-- A polynomial less another: its terms stay small, and come from multiples, a sum and one term more.
use Rattle.std.proofs.Common.{◌≡◌, ◌≤◌, ◌<◌, ◌+◌, ◌*◌, ◌^◌, ◌∙◌, ℕ, List, length, arith}
use Rattle.std.specs.Prelude.{ℤ, pos, ◌-ℤ◌}
use mir.Val.{to_z, of_z}
use Rattle.std.specs.Int.{w128}
use Rattle.std.proofs.lemmas.Int.{ints, fits_signed_from_abs, to_z-of_z}
use Rattle.qs_poly.specs.Polynomials.{one, Polynomial}
use Rattle.qs_poly.specs.Operations.{insert_term, sum, multiple, lessened}
use Rattle.qs_poly.specs.Canonical.{IsCanonical}
use Rattle.qs_poly.specs.declared.terms.Term.{Term}
use Rattle.qs_poly.specs.Terms.{sum_of, AllAtMost}
use Rattle.qs_poly.proofs.Bounds.{at_most_more, sum_terms_at_most, multiple_at_most}
use Rattle.qs_poly.proofs.Coefficients.{sum_canonical, multiple_canonical, number_inserted}

-- what the code has for -k
pub negative_is : (k : ℕ) (x : ℤ) → k < 2 ^ 64 → x ≡ pos 0 -ℤ pos k → to_z w128 (of_z w128 x) ≡ pos 0 -ℤ pos k
negative_is k x lt e = to_z-of_z w128 x (fits_signed_from_abs w128 x (omega (arith, ints))) ∙ e

pub scaled_small : (k : ℕ) (q : Polynomial) → k < 2 ^ 64 → AllAtMost (2 ^ 56) q → AllAtMost (2 ^ 120) (multiple (pos 0 -ℤ pos k) q)
scaled_small k q lt x = multiple_at_most (2 ^ 64) (2 ^ 56) (pos 0 -ℤ pos k) q (omega (arith, ints)) x

pub added_small : (xs : List Term) (q : Polynomial) → length xs ≤ 64 → AllAtMost (2 ^ 56) (sum_of xs) → AllAtMost (2 ^ 120) q → AllAtMost (2 ^ 125) (sum (sum_of xs) q)
added_small xs q few x y = at_most_more (2 ^ 120 + length xs * 2 ^ 56) (2 ^ 125) _ (omega arith) (sum_terms_at_most (2 ^ 120) (2 ^ 56) xs q x y)

pub lessened_is : (p q : Polynomial) (k c : ℕ) → IsCanonical p → IsCanonical q → insert_term (pos 0 -ℤ pos c) one (sum p (multiple (pos 0 -ℤ pos k) q)) ≡ lessened p k q c
lessened_is p q k c x y = number_inserted (pos 0 -ℤ pos c) (sum p (multiple (pos 0 -ℤ pos k) q)) (sum_canonical p (multiple (pos 0 -ℤ pos k) q) x (multiple_canonical (pos 0 -ℤ pos k) q y))
