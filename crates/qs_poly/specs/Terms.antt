-- Polynomials as lists of terms.
use Rattle.std.specs.Prelude.{ℕ, ℤ, ◌+ℤ◌, List, [], ◌∷◌, ◌≤◌, ◌≡◌, refl, Bool, unsigned_abs}
use Rattle.std.proofs.Common.{ap}
use Rattle.std.specs.Ordering.{on, int_eq, eq_by_cmp, eq_of_both}
use Rattle.std.specs.Cmp.{IsEquivalence}
use Rattle.std.specs.Cmp.Lexicographic.{pointwise}
use Rattle.std.proofs.lemmas.Cmp.{eq_by_cmp_equiv, int_eq_equiv, on_equiv, and_equiv, lists_equiv}
use Rattle.qs_poly.specs.Orders.{monomial_cmp, monomial_cmp_total}
use Rattle.qs_poly.specs.Polynomials.{AtomTree, Monomial, times, Polynomial, nothing, plus}
use Rattle.qs_poly.specs.Operations.{plus_unless_zero}
use Rattle.qs_poly.specs.declared.terms.Term.{Term}

abbrev pub sum_of : List Term → Polynomial
sum_of [] = nothing
sum_of (t ∷ others) = plus t.coefficient t.monomial (sum_of others)

abbrev pub terms : Polynomial → List Term
terms nothing = []
terms (plus c m p) = record { coefficient = c; monomial = m } ∷ terms p

pub terms_of_sum : (xs : List Term) → terms (sum_of xs) ≡ xs
terms_of_sum [] = refl
terms_of_sum (t ∷ others) = ap (λ ts. t ∷ ts) (terms_of_sum others)

pub sum_of_terms : (p : Polynomial) → sum_of (terms p) ≡ p
sum_of_terms nothing = refl
sum_of_terms (plus c m p) = ap (λ q. plus c m q) (sum_of_terms p)

-- ---- equality

abbrev pub term_eq : Term → Term → Bool
term_eq = eq_of_both (on (λ t. t.coefficient) int_eq) (on (λ t. t.monomial) (eq_by_cmp monomial_cmp))

pub term_eq_equivalence : IsEquivalence term_eq
term_eq_equivalence = and_equiv (on_equiv (λ (t : Term). t.coefficient) int_eq_equiv) (on_equiv (λ (t : Term). t.monomial) (eq_by_cmp_equiv monomial_cmp_total))

-- two polynomials have the same terms
abbrev pub polynomial_eq : Polynomial → Polynomial → Bool
polynomial_eq = on terms (pointwise term_eq)

pub polynomial_eq_equivalence : IsEquivalence polynomial_eq
polynomial_eq_equivalence = on_equiv terms (lists_equiv term_eq_equivalence)

-- ---- parts before others

-- atoms before a monomial, and terms before a polynomial
abbrev pub atoms_before : List AtomTree → Monomial → Monomial
atoms_before [] m = m
atoms_before (a ∷ others) m = times a (atoms_before others m)

abbrev pub terms_before : List Term → Polynomial → Polynomial
terms_before [] p = p
terms_before (t ∷ others) p = plus t.coefficient t.monomial (terms_before others p)

-- c more of the first
abbrev pub join_first : ℤ → List Term → Polynomial
join_first c [] = nothing
join_first c (t ∷ others) = plus_unless_zero (c +ℤ t.coefficient) t.monomial (sum_of others)

-- each coefficient is at most b, up to its sign
abbrev pub AllAtMost : ℕ → Polynomial → Type 0
AllAtMost b nothing = Unit {0}
AllAtMost b (plus c m p) = (unsigned_abs c ≤ b) × AllAtMost b p
