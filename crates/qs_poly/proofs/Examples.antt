-- Polynomials and limits, computed from the definitions.
use Rattle.std.proofs.Common.{◌≡◌, ℕ, zero, suc, ◌+◌, ◌-◌, ◌^◌, true, false, List, [], ◌∷◌, refl}
use Rattle.std.specs.Prelude.{ℤ, pos, negsuc, ◌==◌, map, Ok, Err, is_ok}
use Rattle.qs_assert.specs.declared.variable.NumberType.{NumberType}
use Rattle.qs_assert.specs.declared.variable.NumberType.TheVariants.{Int, Unsigned}
use Rattle.qs_assert.specs.declared.variable.VarKind.{VarKind}
use Rattle.qs_assert.specs.declared.variable.VarKind.TheVariants.{Plain, Old}
use Rattle.qs_poly.specs.Polynomials.{AtomTree, variable, cost, num, div, wrapu, wraps, bits, one, times, Polynomial, nothing, plus}
use Rattle.qs_poly.specs.Operations.{number, single, sum, multiple, lessened, product}
use Rattle.qs_poly.specs.Limits.{within}
use Rattle.qs_poly.specs.Terms.{polynomial_eq}
use Rattle.qs_poly.specs.declared.fault.PolyFault.TheVariants.{Wide, ManyTerms, HighDegree}

abbrev of_kind : VarKind → NumberType → AtomTree
of_kind kind type = variable (record { kind = kind; number = type })

abbrev x_atom : AtomTree
x_atom = of_kind (Plain 0) Int

abbrev x : Polynomial
x = single x_atom

abbrev y : Polynomial
y = single (of_kind (Plain 1) Int)

-- x and a number
abbrev x_plus : ℤ → Polynomial
x_plus k = sum x (number k)

-- ---- the operations

-- (x - 1) * (x + 1) is x^2 - 1
square_less_one : product (x_plus (negsuc 0)) (x_plus (pos 1)) ≡ plus (negsuc 0) one (plus (pos 1) (times x_atom (times x_atom one)) nothing)
square_less_one = refl

-- x - 1 + 1 is x
back_to_x : sum (x_plus (negsuc 0)) (number (pos 1)) ≡ x
back_to_x = refl

-- 2 * (x - 1) is 2 * x - 2
twice_less : multiple (pos 2) (x_plus (negsuc 0)) ≡ plus (negsuc 1) one (plus (pos 2) (times x_atom one) nothing)
twice_less = refl

-- 5 * x - 1, less 2 * (x - 3), less 4 is 3 * x + 1
five_less : lessened (sum (multiple (pos 5) x) (number (negsuc 0))) 2 (x_plus (negsuc 2)) 4 ≡ plus (pos 1) one (plus (pos 3) (times x_atom one) nothing)
five_less = refl

terms_of_zero_go : sum x (multiple (negsuc 0) x) ∷ multiple (pos 0) x ∷ product x (number (pos 0)) ∷ multiple (pos (2 ^ 64 - 1)) (number (pos 0)) ∷ [] ≡ nothing ∷ nothing ∷ nothing ∷ nothing ∷ []
terms_of_zero_go = refl

order_does_not_matter : sum x y ∷ single (num (sum x y)) ∷ [] ≡ sum y x ∷ single (num (sum y x)) ∷ []
order_does_not_matter = refl

parts_matter : polynomial_eq (single (num (sum x y))) (single (num x)) ∷ polynomial_eq (multiple (pos 2) (x_plus (negsuc 0))) (x_plus (negsuc 0)) ∷ [] ≡ false ∷ false ∷ []
parts_matter = refl

-- heads and numbers tell atoms apart
abbrev atoms : List AtomTree
atoms = of_kind (Plain 0) Unsigned ∷ of_kind (Old 0) Int ∷ cost 0 ∷ num x ∷ div x 2 ∷ div x 3 ∷ wrapu x ∷ wraps x ∷ bits x ∷ []

abbrev numbers : List ℕ
numbers = 0 ∷ 1 ∷ 2 ∷ 3 ∷ 4 ∷ 5 ∷ 6 ∷ 7 ∷ 8 ∷ []

atoms_differ : map (λ a. map (λ b. polynomial_eq (single a) (single b)) atoms) atoms ≡ map (λ i. map (λ j. i == j) numbers) numbers
atoms_differ = refl

-- ---- the limits

numbers_within : map (λ k. is_ok (within (number k))) (pos (2 ^ 56) ∷ negsuc (2 ^ 56 - 1) ∷ []) ≡ true ∷ true ∷ []
numbers_within = refl

wide_numbers : map (λ k. within (number k)) (pos (2 ^ 56 + 1) ∷ negsuc (2 ^ 56) ∷ pos (2 ^ 63 - 1) ∷ negsuc (2 ^ 63 - 1) ∷ pos (2 ^ 64 - 1) ∷ []) ≡ Err Wide ∷ Err Wide ∷ Err Wide ∷ Err Wide ∷ Err Wide ∷ []
wide_numbers = refl

abbrev most_x : Polynomial
most_x = multiple (pos (2 ^ 56)) x

wide_coefficients : map within (sum most_x x ∷ multiple (negsuc (2 ^ 63 - 1)) most_x ∷ product most_x most_x ∷ lessened x 2 most_x 0 ∷ lessened most_x (2 ^ 64 - 1) most_x 0 ∷ multiple (pos (2 ^ 56 + 1)) x ∷ multiple (pos (2 ^ 64 - 1)) x ∷ []) ≡ Err Wide ∷ Err Wide ∷ Err Wide ∷ Err Wide ∷ Err Wide ∷ Err Wide ∷ Err Wide ∷ []
wide_coefficients = refl

narrow_coefficients : map (λ p. is_ok (within p)) (most_x ∷ lessened x 1 most_x 0 ∷ []) ≡ true ∷ true ∷ []
narrow_coefficients = refl

-- (2^29 * x + 2^28) * (2^27 * x - 2^26) has no term of degree 1: only the true result counts
no_middle_term : within (product (sum (multiple (pos (2 ^ 29)) x) (number (pos (2 ^ 28)))) (sum (multiple (pos (2 ^ 27)) x) (number (negsuc (2 ^ 26 - 1))))) ≡ Ok (plus (negsuc (2 ^ 54 - 1)) one (plus (pos (2 ^ 56)) (times x_atom (times x_atom one)) nothing))
no_middle_term = refl

abbrev fourth_power : Polynomial
fourth_power = product (product x x) (product x x)

degrees : is_ok (within fourth_power) ≡ true
degrees = refl

high_degrees : map within (product fourth_power x ∷ product fourth_power fourth_power ∷ []) ≡ Err HighDegree ∷ Err HighDegree ∷ []
high_degrees = refl

-- the sum of so many variables from a number on
abbrev variables_from : ℕ → ℕ → Polynomial
variables_from i zero = nothing
variables_from i (suc k) = plus (pos 1) (times (of_kind (Plain i) Int) one) (variables_from (suc i) k)

few_terms : is_ok (within (variables_from 0 64)) ≡ true
few_terms = refl

many_terms : map within (sum (number (pos 1)) (variables_from 0 64) ∷ variables_from 0 65 ∷ []) ≡ Err ManyTerms ∷ Err ManyTerms ∷ []
many_terms = refl

-- 9 terms times 8 terms
many_products : within (product (variables_from 0 9) (variables_from 9 8)) ≡ Err ManyTerms
many_products = refl

-- a term of degree 5 with this coefficient, and 63 or 64 others
abbrev with_high : ℤ → ℕ → Polynomial
with_high c k = plus c (times x_atom (times x_atom (times x_atom (times x_atom (times x_atom one))))) (variables_from 0 k)

-- the first limit is told: a coefficient before the count of terms, and that before a degree
first_limits : map within (with_high (pos 1) 63 ∷ with_high (pos 1) 64 ∷ with_high (pos (2 ^ 57)) 64 ∷ []) ≡ Err HighDegree ∷ Err ManyTerms ∷ Err Wide ∷ []
first_limits = refl
