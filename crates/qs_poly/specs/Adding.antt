-- What is added to lists of atoms and to lists of terms.
use Rattle.std.specs.Prelude.{◌≡◌, ℕ, ℤ, ◌*ℤ◌, List, take, drop, MatchResult, Result}
use Rattle.qs_poly.specs.Operations.{plus_unless_zero, insert_atom, monomial_product, sum, insert_term, lessened, add_term_product}
use Rattle.qs_poly.specs.Polynomials.{AtomTree, Monomial, times, Polynomial}
use Rattle.qs_poly.specs.Terms.{sum_of, atoms_before, terms_before, join_first}
use Rattle.qs_poly.specs.Views.{product_of}
use Rattle.qs_poly.specs.declared.terms.Term.{Term}

-- ---- atoms

-- the atom goes before the atoms from i on
abbrev pub AtomGoesAt : AtomTree → List AtomTree → ℕ → Type 0
AtomGoesAt a atoms i = insert_atom a (product_of atoms) ≡ atoms_before (take i atoms) (times a (product_of (drop i atoms)))

abbrev pub AddsAtom : AtomTree → (old new : List AtomTree) → Type 0
AddsAtom a old new = product_of new ≡ insert_atom a (product_of old)

abbrev pub AddsAtoms : List AtomTree → (old new : List AtomTree) → Type 0
AddsAtoms atoms old new = product_of new ≡ monomial_product (product_of atoms) (product_of old)

-- ---- a term

abbrev pub term_multiple : ℤ → Term → Term
term_multiple k t = record { coefficient = k *ℤ t.coefficient; monomial = t.monomial }

abbrev pub term_product : Term → Term → Term
term_product t u = record { coefficient = t.coefficient *ℤ u.coefficient; monomial = monomial_product t.monomial u.monomial }

-- ---- terms

-- Where a term of the monomial is added, whatever its coefficient: to the term i that has the monomial, or before
-- the terms from i on.
abbrev pub IsPlaceOf : Monomial → List Term → Result ℕ ℕ → Type 0
IsPlaceOf m terms place =
    (c : ℤ) → MatchResult place (λ i. insert_term c m (sum_of terms) ≡ terms_before (take i terms) (join_first c (drop i terms))) (λ i. insert_term c m (sum_of terms) ≡ terms_before (take i terms) (plus_unless_zero c m (sum_of (drop i terms))))

-- c more of term i, which goes where that makes 0
abbrev pub AddsToTerm : ℕ → ℤ → (old new : List Term) → Type 0
AddsToTerm i c old new = sum_of new ≡ terms_before (take i old) (join_first c (drop i old))

abbrev pub AddsTerm : Term → (old new : List Term) → Type 0
AddsTerm t old new = sum_of new ≡ insert_term t.coefficient t.monomial (sum_of old)

-- the term stands behind the others, unless its coefficient is 0
abbrev pub PutsLast : Term → (old new : List Term) → Type 0
PutsLast t old new =
    (p : Polynomial) → terms_before new p ≡ terms_before old (plus_unless_zero t.coefficient t.monomial p)

abbrev pub AddsTerms : List Term → (old new : List Term) → Type 0
AddsTerms terms old new = sum_of new ≡ sum (sum_of terms) (sum_of old)

-- a term times terms is added
abbrev pub AddsProduct : Term → List Term → (old new : List Term) → Type 0
AddsProduct t others old new = sum_of new ≡ add_term_product t.coefficient t.monomial (sum_of others) (sum_of old)

-- the terms, less k times others, less c
abbrev pub terms_less : List Term → ℕ → List Term → ℕ → Polynomial
terms_less terms k others c = lessened (sum_of terms) k (sum_of others) c
