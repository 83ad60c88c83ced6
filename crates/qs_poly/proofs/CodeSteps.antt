-- One step of writing a code.
use Rattle.std.proofs.Common.{◌≡◌, ◌≤◌, ◌<◌, ◌+◌, ◌++◌, ℕ, zero, suc, List, [], ◌∷◌, drop, length, get_or, refl, sym, ap, arith, add-one}
use Rattle.qs_poly.specs.declared.node.Node.TheVariants.{Coefficient, EndOfTerm, EndOfPoly}
use Rattle.qs_poly.specs.declared.terms.Term.{Term}
use Rattle.qs_poly.specs.Polynomials.{AtomTree}
use Rattle.qs_poly.specs.Codes.{code, monomial_code, polynomial_code}
use Rattle.qs_poly.specs.Views.{product_of}
use Rattle.qs_poly.specs.Terms.{sum_of}

atom_step : (xs : List AtomTree) (i : ℕ) (d : AtomTree) → i < length xs → d ≡ get_or xs i d → monomial_code (product_of (drop i xs)) ≡ code d ++ monomial_code (product_of (drop (suc i) xs))
atom_step [] i d lt e = absurd (omega arith)
atom_step (x ∷ xs) zero d lt e = ap (λ y. code y ++ monomial_code (product_of xs)) (sym e)
atom_step (x ∷ xs) (suc i) d lt e = atom_step xs i d (omega arith) e

pub atom_coded : (xs : List AtomTree) (i : ℕ) (d : AtomTree) → i < length xs → d ≡ get_or xs i d → monomial_code (product_of (drop i xs)) ≡ code d ++ monomial_code (product_of (drop (i + 1) xs))
atom_coded xs i d lt e = rw add-one (atom_step xs i d lt e)

pub monomial_ends : (xs : List AtomTree) (i : ℕ) → length xs ≤ i → monomial_code (product_of (drop i xs)) ≡ EndOfTerm ∷ []
monomial_ends [] zero h = refl
monomial_ends [] (suc i) h = refl
monomial_ends (x ∷ xs) zero h = absurd (omega arith)
monomial_ends (x ∷ xs) (suc i) h = monomial_ends xs i (omega arith)

term_step : (xs : List Term) (i : ℕ) (d : Term) → i < length xs → d ≡ get_or xs i d → polynomial_code (sum_of (drop i xs)) ≡ Coefficient d.coefficient ∷ (monomial_code d.monomial ++ polynomial_code (sum_of (drop (suc i) xs)))
term_step [] i d lt e = absurd (omega arith)
term_step (x ∷ xs) zero d lt e = ap (λ (y : Term). Coefficient y.coefficient ∷ (monomial_code y.monomial ++ polynomial_code (sum_of xs))) (sym e)
term_step (x ∷ xs) (suc i) d lt e = term_step xs i d (omega arith) e

pub term_coded : (xs : List Term) (i : ℕ) (d : Term) → i < length xs → d ≡ get_or xs i d → polynomial_code (sum_of (drop i xs)) ≡ Coefficient d.coefficient ∷ (monomial_code d.monomial ++ polynomial_code (sum_of (drop (i + 1) xs)))
term_coded xs i d lt e = rw add-one (term_step xs i d lt e)

pub polynomial_ends : (xs : List Term) (i : ℕ) → length xs ≤ i → polynomial_code (sum_of (drop i xs)) ≡ EndOfPoly ∷ []
polynomial_ends [] zero h = refl
polynomial_ends [] (suc i) h = refl
polynomial_ends (x ∷ xs) zero h = absurd (omega arith)
polynomial_ends (x ∷ xs) (suc i) h = polynomial_ends xs i (omega arith)
