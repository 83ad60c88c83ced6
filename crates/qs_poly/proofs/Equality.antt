-- Polynomials that the test finds equal are equal.
use Rattle.std.proofs.Common.{◌≡◌, true, List, [], ◌∷◌, refl, sym, ap, ◌∙◌, arith}
use Rattle.std.specs.Prelude.{ℤ}
use Rattle.std.specs.declared.cmp.Ordering.{Ordering}
use Rattle.std.specs.declared.cmp.Ordering.TheVariants.{Less, Equal, Greater}
use Rattle.std.specs.Ordering.{int_eq, is_eq}
use Rattle.std.specs.Cmp.Lexicographic.{pointwise}
use Rattle.std.proofs.lemmas.Int.{ints}
use Rattle.std.proofs.lemmas.Bool.{and_parts}
use Rattle.qs_poly.specs.declared.terms.Term.{Term}
use Rattle.qs_poly.specs.Polynomials.{Polynomial}
use Rattle.qs_poly.specs.Orders.{monomial_cmp}
use Rattle.qs_poly.specs.Terms.{sum_of, terms, sum_of_terms, term_eq, polynomial_eq, polynomial_eq_equivalence}
use Rattle.qs_poly.proofs.Order.{monomial_equal}

same_integer : (x y : ℤ) → int_eq x y ≡ true → x ≡ y
same_integer x y h = grind (arith, ints)

same_order : (o : Ordering) → is_eq o ≡ true → o ≡ Equal
same_order Less h = cc
same_order Equal h = refl
same_order Greater h = cc

term_equal : (t u : Term) → term_eq t u ≡ true → t ≡ u
term_equal t u h =
    let e = and_parts (int_eq t.coefficient u.coefficient) (is_eq (monomial_cmp t.monomial u.monomial)) h in
    let c = same_integer t.coefficient u.coefficient e.0 in
    let m = monomial_equal t.monomial u.monomial (same_order (monomial_cmp t.monomial u.monomial) e.1) in
    ap (λ z. record t { coefficient = z }) c ∙ ap (λ n. record u { monomial = n }) m

terms_equal : (xs ys : List Term) → pointwise term_eq xs ys ≡ true → xs ≡ ys
terms_equal [] [] h = refl
terms_equal [] (y ∷ ys) h = cc
terms_equal (x ∷ xs) [] h = cc
terms_equal (x ∷ xs) (y ∷ ys) h =
    let e = and_parts (term_eq x y) (pointwise term_eq xs ys) h in
    ap (λ z. z ∷ xs) (term_equal x y e.0) ∙ ap (λ zs. y ∷ zs) (terms_equal xs ys e.1)

pub polynomial_equal : (p q : Polynomial) → polynomial_eq p q ≡ true → p ≡ q
polynomial_equal p q h = sym (sum_of_terms p) ∙ ap sum_of (terms_equal (terms p) (terms q) h) ∙ sum_of_terms q

pub polynomial_itself : (p : Polynomial) → polynomial_eq p p ≡ true
polynomial_itself p = polynomial_eq_equivalence.refl p
