-- What the guards of a function that counts x down say.
use Rattle.std.proofs.Common.{◌≡◌, ◌≤◌, ◌+◌, ◌^◌, ℕ, refl, ap, arith, Bool, true, List, [], ◌∷◌, Ok}
use Rattle.std.specs.Prelude.{pos, negsuc, ◌||◌}
use Rattle.qs_base.specs.Results.{bind, require}
use Rattle.qs_assert.specs.declared.variable.VarKind.{VarKind}
use Rattle.qs_assert.specs.Trees.{TermTree, CondTree, le, eq}
use Rattle.qs_assert.specs.Trees as tree
use Rattle.qs_poly.specs.Polynomials as poly
use Rattle.qs_poly.specs.Polynomials.{Polynomial}
use Rattle.qs_poly.specs.Operations.{number, lessened}
use Rattle.qs_poly.specs.Terms.{polynomial_eq}
use Rattle.qs_entail.specs.Building.{breaks, limited, difference, term_polynomial, at, combination}
use Rattle.qs_entail.specs.Certificates.{Item, once}
use Rattle.qs_entail.specs.Facts.{apart_by}
use Rattle.qs_entail.specs.Faults.{done, contradiction}
use Rattle.qs_entail.specs.Pushing.{Known, with_condition, with_polynomials, push}
use Rattle.qs_recur.specs.Needs.{unsigned}
use Rattle.qs_recur.specs.Certificates.{unsigned_term}
use Rattle.qs_recur.proofs.Smallness.{Small, small_more, small_sum, small_multiple, small_number}
use Rattle.qs_recur.proofs.StepLaws.{bound}
use Rattle.qs_recur.proofs.SmallFacts.{no_limit, IsOne, IsTwo, IsKnown, one_number, one_single, one_is_two, two_difference, difference_is, number_is, x_of, Gives, once_gives}
use Rattle.qs_recur.proofs.Identities.{x_less, once_of, greatest_unsigned, minus_one, but_one}

-- ---- what differs is apart, and what can't be

pub apart_added :
    (t u : TermTree) (w : List Item) (l : List Polynomial) (p q z : Polynomial) → term_polynomial t ≡ Ok p → term_polynomial u ≡ Ok q → IsTwo p → IsTwo q → combination w l ≡ Ok z
    → limited (but_one z) ≡ Ok (but_one z) → polynomial_eq z (lessened p 1 q 0) ≡ true → apart_by t u w l ≡ Ok (but_one z ∷ [])
apart_added t u w l p q z tp uq x y c h e =
    bound (term_polynomial t) p _ _ tp
    (bound (term_polynomial u) q _ _ uq
    (bound (combination w l) z _ _ c
    (bound (difference p q) (lessened p 1 q 0) _ _ (difference_is p q x y)
    (bound (difference q p) (lessened q 1 p 0) _ _ (difference_is q p y x)
    (bound (limited (but_one z)) (but_one z) _ _ h
    (ap (λ (b : Bool). require (b || polynomial_eq z (lessened q 1 p 0)) breaks (Ok (but_one z ∷ []))) e))))))

pub contradicted : (w : List Item) (k : Known) (z : Polynomial) → combination w k.polynomials ≡ Ok z → polynomial_eq z minus_one ≡ true → contradiction w k ≡ Ok tt
contradicted w k z c e =
    bound (combination w k.polynomials) z (λ z. require (polynomial_eq z (number (negsuc 0))) breaks done) (Ok tt) c (ap (λ (b : Bool). require b breaks done) e)

pub small_minus_one : Small 1 1 1 minus_one
small_minus_one = small_more 1 1 0 1 1 1 minus_one (omega arith) (omega arith) (omega arith) (small_number (negsuc 0))

pub minus_one_known : IsKnown minus_one
minus_one_known = small_more 1 1 1 4 (2 ^ 34) 1 minus_one (omega arith) (omega arith) (omega arith) small_minus_one

once_two : (p : Polynomial) → IsTwo p → Small 2 (2 ^ 33) 1 (once_of p)
once_two p x = small_multiple 2 (2 ^ 33) 1 (2 ^ 33) (pos 1) p (omega arith) x

pub but_one_known : (p : Polynomial) → IsTwo p → IsKnown (but_one (once_of p))
but_one_known p x =
    small_more 3 (2 ^ 33 + 1) 1 4 (2 ^ 34) 1 (but_one (once_of p)) (omega arith) (omega arith) (omega arith) (small_sum 2 (2 ^ 33) 1 1 1 (once_of p) minus_one (once_two p x) small_minus_one)

pub known_limited : (p : Polynomial) → IsKnown p → limited p ≡ Ok p
known_limited p x = no_limit 4 (2 ^ 34) 1 p (omega arith) (omega arith) (omega arith) x

-- (1 i)
pub once_known : (l : List Polynomial) (i : ℕ) (q : Polynomial) → at l (pos i) ≡ q → IsKnown q → Gives (once 1 (pos i)) l (once_of q)
once_known l i q h y = once_gives l 1 i (2 ^ 34) q h (omega arith) y

module _ (x o : VarKind) where
  abbrev pub px : Polynomial
  px = x_of x

  abbrev pub py : Polynomial
  py = x_of o

  abbrev pub y_less_x : Polynomial
  y_less_x = lessened py 1 px 0

  abbrev pub x_less_y : Polynomial
  x_less_y = lessened px 1 py 0

  abbrev pub from_zero : Polynomial
  from_zero = x_less px 0

  abbrev pub to_greatest : Polynomial
  to_greatest = lessened greatest_unsigned 1 px 0

  abbrev pub same_x : CondTree
  same_x = eq (unsigned_term x) (unsigned_term o)

  pub x_one : IsOne px
  x_one = one_single (poly.variable (unsigned x)) tt

  y_one : IsOne py
  y_one = one_single (poly.variable (unsigned o)) tt

  pub x_two : IsTwo px
  x_two = one_is_two px x_one

  pub y_two : IsTwo py
  y_two = one_is_two py y_one

  pub y_x_two : IsTwo y_less_x
  y_x_two = two_difference py px y_one x_one

  pub x_y_two : IsTwo x_less_y
  x_y_two = two_difference px py x_one y_one

  pub from_zero_two : IsTwo from_zero
  from_zero_two = two_difference px (number (pos 0)) x_one (one_number 0 (omega arith))

  pub equal_pushed : (k : Known) → push same_x k ≡ Ok (with_polynomials (y_less_x ∷ x_less_y ∷ []) (with_condition same_x k))
  equal_pushed k =
      bound (difference py px) y_less_x (λ d. bind (difference px py) (λ e. Ok (with_polynomials (d ∷ e ∷ []) (with_condition same_x k)))) (Ok (with_polynomials (y_less_x ∷ x_less_y ∷ []) (with_condition same_x k)))
      (difference_is py px y_two x_two)
      (bound (difference px py) x_less_y (λ e. Ok (with_polynomials (y_less_x ∷ e ∷ []) (with_condition same_x k))) (Ok (with_polynomials (y_less_x ∷ x_less_y ∷ []) (with_condition same_x k))) (difference_is px py x_two y_two) refl)

  pub least_pushed : (n : ℕ) → n ≤ 2 ^ 32 → (k : Known) → push (le (tree.number (pos n)) (unsigned_term x)) k ≡ Ok (with_polynomials (x_less px n ∷ []) (with_condition (le (tree.number (pos n)) (unsigned_term x)) k))
  least_pushed n h k =
      let least = le (tree.number (pos n)) (unsigned_term x) in
      bound (term_polynomial (tree.number (pos n))) (number (pos n)) (λ p. bind (difference px p) (λ d. Ok (with_polynomials (d ∷ []) (with_condition least k)))) (Ok (with_polynomials (x_less px n ∷ []) (with_condition least k))) (number_is n h)
      (bound (difference px (number (pos n))) (x_less px n) (λ d. Ok (with_polynomials (d ∷ []) (with_condition least k))) (Ok (with_polynomials (x_less px n ∷ []) (with_condition least k)))
      (difference_is px (number (pos n)) x_two (one_is_two (number (pos n)) (one_number n h))) refl)
