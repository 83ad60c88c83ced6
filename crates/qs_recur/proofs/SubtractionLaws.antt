-- A call f(x - k) where x is at least n: the costs of x calls are those of one, and of x - k.
use Rattle.std.proofs.Common.{◌≡◌, ◌≤◌, ◌-◌, ◌^◌, ℕ, refl, ap, ◌∙◌, arith, Bool, true, List, [], ◌∷◌, Result, Ok, None}
use Rattle.std.specs.Prelude.{pos}
use Rattle.qs_base.specs.Results.{bind, require}
use Rattle.qs_assert.specs.declared.define.Define.{Define}
use Rattle.qs_assert.specs.declared.variable.VarKind.{VarKind}
use Rattle.qs_assert.specs.Trees.{TermTree, variable, sub, wrapu, CondTree, AssertionTree, num, cost, total, assertions_of}
use Rattle.qs_assert.specs.Trees as tree
use Rattle.qs_poly.specs.Polynomials as poly
use Rattle.qs_poly.specs.Polynomials.{AtomTree, Polynomial}
use Rattle.qs_poly.specs.Operations.{sum, product, number, lessened, single}
use Rattle.qs_poly.specs.Terms.{polynomial_eq}
use Rattle.qs_entail.specs.Building.{Stop, breaks, limited, difference, term_polynomial, assertion_polynomial, factors_onto, total_onto, at, combination}
use Rattle.qs_entail.specs.Certificates.{Item, once, twice, range, cost_range, num_is, wrapu_is, arithmetic, fact}
use Rattle.qs_entail.specs.Facts.{added}
use Rattle.qs_entail.specs.Faults.{done, arithmetic_holds}
use Rattle.qs_entail.specs.Pushing.{Known}
use Rattle.qs_entail.specs.Verdicts.{fault}
use Rattle.qs_recur.specs.Needs.{unsigned, costs}
use Rattle.qs_recur.specs.Certificates.{unsigned_term, less_term, less_items, wrapped_fact, less_fact, less_costs, less_numbers, less_wrapped, less_paid}
use Rattle.qs_recur.proofs.Readings.{found_equal}
use Rattle.qs_recur.proofs.Smallness.{Small, small_more, small_sum, small_number, small_single, small_product, small_difference}
use Rattle.qs_recur.proofs.StepLaws.{bound, fault_fact, fault_arithmetic}
use Rattle.qs_recur.proofs.SmallFacts.{no_limit, IsOne, IsTwo, IsKnown, one_number, one_single, one_is_two, two_is_known, two_difference, known_difference, difference_is, number_is, x_of, range_added, num_added, wrapu_added, Gives, once_gives, twice_gives, small_two, small_three, small_four, one_combined, three_combined, four_combined, both_combined}
use Rattle.qs_recur.proofs.Identities.{x_less, once_of, number_times, greatest_unsigned, not_below, not_above, x_again, wrapped_again, term_of, once_with, number_with, paid}

-- ---- as many costs of f as a number

pub small_term : (n a : AtomTree) → Small 1 1 1 (single n) → Small 1 1 1 (single a) → Small 1 1 2 (term_of n a)
small_term n a x y = small_product 1 1 1 a (product (number (pos 1)) (single n)) y.canonical.1.0 (small_product 1 1 0 n (number (pos 1)) x.canonical.1.0 (small_number (pos 1)))

pub costs_polynomial : (t : TermTree) (f : ℕ) (p : Polynomial) → term_polynomial t ≡ Ok p → IsOne p → assertion_polynomial (costs t f) ≡ Ok (term_of (poly.num p) (poly.cost f))
costs_polynomial t f p h x =
    let n = poly.num p in
    let c = poly.cost f in
    let a = product (number (pos 1)) (single n) in
    let s = small_single n x.canonical in
    ap (λ (r : Result Polynomial Stop). bind (bind r (λ p. Ok (single (poly.num p)))) (λ q. bind (limited (product (number (pos 1)) q)) (λ r. factors_onto (assertions_of (cost f ∷ [])) r))) h
    ∙ bound (limited a) a (λ r. bind (limited (product r (single c))) (λ r. Ok r)) (Ok (term_of n c)) (no_limit 1 1 1 a (omega arith) (omega arith) (omega arith) (small_product 1 1 0 n (number (pos 1)) x.canonical (small_number (pos 1))))
    (bound (limited (term_of n c)) (term_of n c) (λ r. Ok r) (Ok (term_of n c)) (no_limit 1 1 2 (term_of n c) (omega arith) (omega arith) (omega arith) (small_term n c s (small_single c tt))) refl)

-- and one more
pub more_polynomial :
    (t : TermTree) (f : ℕ) (p : Polynomial) → term_polynomial t ≡ Ok p → IsOne p
    → assertion_polynomial (total (assertions_of (cost f ∷ costs t f ∷ []))) ≡ Ok (sum (single (poly.cost f)) (term_of (poly.num p) (poly.cost f)))
more_polynomial t f p h x =
    let n = poly.num p in
    let c = poly.cost f in
    let b = term_of n c in
    let s = sum (single c) b in
    let y = small_single c tt in
    let z = small_sum 1 1 1 1 2 (single c) b (small_more 1 1 1 1 1 2 (single c) (omega arith) (omega arith) (omega arith) y) (small_term n c (small_single n x.canonical) y) in
    bound (limited (single c)) (single c) (λ r. total_onto (assertions_of (costs t f ∷ [])) r) (Ok s) (no_limit 1 1 1 (single c) (omega arith) (omega arith) (omega arith) y)
    (bound (assertion_polynomial (costs t f)) b (λ q. bind (limited (sum (single c) q)) (λ r. Ok r)) (Ok s) (costs_polynomial t f p h x)
    (bound (limited s) s (λ r. Ok r) (Ok s) (no_limit 2 2 2 s (omega arith) (omega arith) (omega arith) z) refl))

pub holds :
    (w : List Item) (k : Known) (p q : AssertionTree) (a b z : Polynomial) → assertion_polynomial p ≡ Ok a → assertion_polynomial q ≡ Ok b → combination w k.polynomials ≡ Ok z
    → difference a b ≡ Ok (lessened a 1 b 0) → polynomial_eq z (lessened a 1 b 0) ≡ true → arithmetic_holds w k p q ≡ Ok tt
holds w k p q a b z x y c d e =
    bound (assertion_polynomial p) a (λ a. bind (assertion_polynomial q) (λ b. bind (combination w k.polynomials) (λ z. bind (difference a b) (λ d. require (polynomial_eq z d) breaks done)))) (Ok tt) x
    (bound (assertion_polynomial q) b (λ b. bind (combination w k.polynomials) (λ z. bind (difference a b) (λ d. require (polynomial_eq z d) breaks done))) (Ok tt) y
    (bound (combination w k.polynomials) z (λ z. bind (difference a b) (λ d. require (polynomial_eq z d) breaks done)) (Ok tt) c
    (bound (difference a b) (lessened a 1 b 0) (λ d. require (polynomial_eq z d) breaks done) (Ok tt) d (ap (λ (v : Bool). require v breaks done) e))))

-- ---- the certificate

module _ (f : ℕ) (x : VarKind) (k n : ℕ) (positive : 1 ≤ k) (reaches : k ≤ n) (fits : n ≤ 2 ^ 32) where
  abbrev p : Polynomial
  p = x_less (x_of x) k

  abbrev pub w : Polynomial
  w = single (poly.wrapu p)

  abbrev nx : AtomTree
  nx = poly.num (x_of x)

  abbrev nw : AtomTree
  nw = poly.num w

  abbrev c : AtomTree
  c = poly.cost f

  abbrev l0 : Polynomial
  l0 = number (pos 1)

  abbrev l3 : Polynomial
  l3 = x_less (x_of x) n

  abbrev l4 : Polynomial
  l4 = x_less (x_of x) 0

  abbrev l5 : Polynomial
  l5 = lessened greatest_unsigned 1 (x_of x) 0

  abbrev l6 : Polynomial
  l6 = lessened w 1 p 0

  abbrev l7 : Polynomial
  l7 = lessened p 1 w 0

  abbrev l8 : Polynomial
  l8 = lessened (single nx) 1 (x_of x) 0

  abbrev l9 : Polynomial
  l9 = lessened (x_of x) 1 (single nx) 0

  abbrev l10 : Polynomial
  l10 = lessened (single nw) 1 w 0

  abbrev l11 : Polynomial
  l11 = lessened w 1 (single nw) 0

  -- ---- their sizes

  x_one : IsOne (x_of x)
  x_one = one_single (poly.variable (unsigned x)) tt

  k_one : IsOne (number (pos k))
  k_one = one_number k (omega (arith, reaches, fits))

  n_one : IsOne (number (pos n))
  n_one = one_number n fits

  l0_one : IsOne l0
  l0_one = one_number 1 (omega arith)

  p_two : IsTwo p
  p_two = two_difference (x_of x) (number (pos k)) x_one k_one

  pub w_one : IsOne w
  w_one = one_single (poly.wrapu p) p_two.canonical

  l3_two : IsTwo l3
  l3_two = two_difference (x_of x) (number (pos n)) x_one n_one

  l4_two : IsTwo l4
  l4_two = two_difference (x_of x) (number (pos 0)) x_one (one_number 0 (omega arith))

  l5_two : IsTwo l5
  l5_two = two_difference greatest_unsigned (x_of x) (one_number (2 ^ 32 - 1) (omega arith)) x_one

  nx_one : IsOne (single nx)
  nx_one = one_single nx x_one.canonical

  nw_one : IsOne (single nw)
  nw_one = one_single nw w_one.canonical

  l6_known : IsKnown l6
  l6_known = known_difference w p (one_is_two w w_one) p_two

  l7_known : IsKnown l7
  l7_known = known_difference p w p_two (one_is_two w w_one)

  l8_known : IsKnown l8
  l8_known = two_is_known l8 (two_difference (single nx) (x_of x) nx_one x_one)

  l11_known : IsKnown l11
  l11_known = two_is_known l11 (two_difference w (single nw) w_one nw_one)

  -- ---- terms

  less_is : term_polynomial (sub (unsigned_term x) (tree.number (pos k))) ≡ Ok p
  less_is =
      bound (term_polynomial (tree.number (pos k))) (number (pos k)) (λ q. difference (x_of x) q) (Ok p) (number_is k (omega (arith, reaches, fits)))
      (difference_is (x_of x) (number (pos k)) (one_is_two (x_of x) x_one) (one_is_two (number (pos k)) k_one))

  pub less_term_is : term_polynomial (less_term x k) ≡ Ok w
  less_term_is = ap (λ (r : Result Polynomial Stop). bind r (λ p. Ok (single (poly.wrapu p)))) less_is

  -- ---- what is known, more and more

  module _ (cs : List CondTree) (l1 l2 : Polynomial) where
    abbrev known : List Polynomial → Known
    known ls = record { conditions = cs; polynomials = ls }

    abbrev at_start : List Polynomial
    at_start = l0 ∷ l1 ∷ l2 ∷ l3 ∷ []

    abbrev ranged : List Polynomial
    ranged = l0 ∷ l1 ∷ l2 ∷ l3 ∷ l4 ∷ l5 ∷ []

    abbrev wrapped : List Polynomial
    wrapped = l0 ∷ l1 ∷ l2 ∷ l3 ∷ l4 ∷ l5 ∷ l6 ∷ l7 ∷ []

    abbrev numbered : List Polynomial
    numbered = l0 ∷ l1 ∷ l2 ∷ l3 ∷ l4 ∷ l5 ∷ l6 ∷ l7 ∷ l8 ∷ l9 ∷ []

    abbrev both_numbered : List Polynomial
    both_numbered = l0 ∷ l1 ∷ l2 ∷ l3 ∷ l4 ∷ l5 ∷ l6 ∷ l7 ∷ l8 ∷ l9 ∷ l10 ∷ l11 ∷ []

    abbrev all_known : List Polynomial
    all_known = l0 ∷ l1 ∷ l2 ∷ l3 ∷ l4 ∷ l5 ∷ l6 ∷ l7 ∷ l8 ∷ l9 ∷ l10 ∷ l11 ∷ single c ∷ []

    -- (1 i)
    once_known : (l : List Polynomial) (i : ℕ) (q : Polynomial) → at l (pos i) ≡ q → IsKnown q → Gives (once 1 (pos i)) l (once_of q)
    once_known l i q h y = once_gives l 1 i (2 ^ 34) q h (omega arith) y

    -- (m 0)
    number_known : (l : List Polynomial) (m : ℕ) → at l (pos 0) ≡ l0 → m ≤ 2 ^ 32 → Gives (once m (pos 0)) l (number_times m)
    number_known l m h y = once_gives l m 0 1 l0 h (omega arith) (small_more 1 1 0 4 1 1 l0 (omega arith) (omega arith) (omega arith) (small_number (pos 1)))

    wrapped_added :
        added (wrapu_is (sub (unsigned_term x) (tree.number (pos k))) (once 1 (pos 3) ∷ once (n - k) (pos 0) ∷ []) (once 1 (pos 5) ∷ once k (pos 0) ∷ [])) (known ranged) ≡ Ok (l6 ∷ l7 ∷ [])
    wrapped_added =
        let a = once_known ranged 3 l3 refl (two_is_known l3 l3_two) in
        let b = number_known ranged (n - k) refl (omega (arith, fits)) in
        let d = once_known ranged 5 l5 refl (two_is_known l5 l5_two) in
        let e = number_known ranged k refl (omega (arith, reaches, fits)) in
        let room = known_difference greatest_unsigned p (one_is_two greatest_unsigned (one_number (2 ^ 32 - 1) (omega arith))) p_two in
        wrapu_added (sub (unsigned_term x) (tree.number (pos k))) (once 1 (pos 3) ∷ once (n - k) (pos 0) ∷ []) (once 1 (pos 5) ∷ once k (pos 0) ∷ []) (known ranged) p
        (sum (once_of l3) (number_times (n - k))) (sum (once_of l5) (number_times k)) less_is p_two
        (both_combined ranged (once 1 (pos 3)) (once (n - k) (pos 0)) (once 1 (pos 5)) (once k (pos 0)) (once_of l3) (number_times (n - k)) (once_of l5) (number_times k) a b d e)
        (found_equal (sum (once_of l3) (number_times (n - k))) p (small_two (once_of l3) (number_times (n - k)) a.1 b.1).canonical p_two.canonical (λ g. not_below g (x_of x) k n reaches))
        (found_equal (sum (once_of l5) (number_times k)) (lessened greatest_unsigned 1 p 0) (small_two (once_of l5) (number_times k) d.1 e.1).canonical room.canonical (λ g. not_above g (x_of x) k))

    x_added : added (num_is (unsigned_term x) (once 1 (pos 4) ∷ [])) (known wrapped) ≡ Ok (l8 ∷ l9 ∷ [])
    x_added =
        let a = once_known wrapped 4 l4 refl (two_is_known l4 l4_two) in
        num_added (unsigned_term x) (once 1 (pos 4) ∷ []) (known wrapped) (x_of x) (once_of l4) refl x_one (one_combined wrapped (once 1 (pos 4)) (once_of l4) a)
        (found_equal (once_of l4) (x_of x) a.1.canonical x_one.canonical (λ g. x_again g (x_of x)))

    less_added : added (num_is (less_term x k) (once 1 (pos 6) ∷ once 1 (pos 3) ∷ once (n - k) (pos 0) ∷ [])) (known numbered) ≡ Ok (l10 ∷ l11 ∷ [])
    less_added =
        let a = once_known numbered 6 l6 refl l6_known in
        let b = once_known numbered 3 l3 refl (two_is_known l3 l3_two) in
        let d = number_known numbered (n - k) refl (omega (arith, fits)) in
        num_added (less_term x k) (once 1 (pos 6) ∷ once 1 (pos 3) ∷ once (n - k) (pos 0) ∷ []) (known numbered) w (sum (sum (once_of l6) (once_of l3)) (number_times (n - k))) less_term_is w_one
        (three_combined numbered (once 1 (pos 6)) (once 1 (pos 3)) (once (n - k) (pos 0)) (once_of l6) (once_of l3) (number_times (n - k)) a b d)
        (found_equal (sum (sum (once_of l6) (once_of l3)) (number_times (n - k))) w (small_three (once_of l6) (once_of l3) (number_times (n - k)) a.1 b.1 d.1).canonical w_one.canonical
        (λ g. wrapped_again g (x_of x) w k n reaches))

    abbrev before : AssertionTree
    before = costs (unsigned_term x) f

    abbrev after : AssertionTree
    after = total (assertions_of (cost f ∷ costs (less_term x k) f ∷ []))

    all_paid : arithmetic_holds (less_items k) (known all_known) before after ≡ Ok tt
    all_paid =
        let one = λ (i : ℕ) (q : Polynomial) (h : at all_known (pos i) ≡ q) (y : IsKnown q). twice_gives all_known 1 i 12 (2 ^ 34) c q h refl (omega arith) (omega arith) tt y in
        let i = one 8 l8 refl l8_known in
        let j = one 11 l11 refl l11_known in
        let o = one 7 l7 refl l7_known in
        let m = twice_gives all_known (k - 1) 0 12 1 c l0 refl refl (omega arith) (omega (arith, reaches, fits)) tt (small_more 1 1 0 4 1 1 l0 (omega arith) (omega arith) (omega arith) (small_number (pos 1))) in
        let a = term_of nx c in
        let b = sum (single c) (term_of nw c) in
        let y = small_single c tt in
        let small_a = small_term nx c (small_single nx x_one.canonical) y in
        let small_b = small_sum 1 1 1 1 2 (single c) (term_of nw c) (small_more 1 1 1 1 1 2 (single c) (omega arith) (omega arith) (omega arith) y) (small_term nw c (small_single nw w_one.canonical) y) in
        let small_d = small_difference 1 1 2 2 2 a b small_a small_b in
        let z = sum (sum (sum (once_with c l8) (once_with c l11)) (once_with c l7)) (number_with c (k - 1)) in
        holds (less_items k) (known all_known) before after a b z (costs_polynomial (unsigned_term x) f (x_of x) refl x_one) (more_polynomial (less_term x k) f w less_term_is w_one)
        (four_combined all_known (twice 1 (pos 8) (pos 12)) (twice 1 (pos 11) (pos 12)) (twice 1 (pos 7) (pos 12)) (twice (k - 1) (pos 0) (pos 12)) (once_with c l8) (once_with c l11) (once_with c l7) (number_with c (k - 1)) i j o m)
        (no_limit 3 3 2 (lessened a 1 b 0) (omega arith) (omega arith) (omega arith) small_d)
        (found_equal z (lessened a 1 b 0) (small_four (once_with c l8) (once_with c l11) (once_with c l7) (number_with c (k - 1)) i.1 j.1 o.1 m.1).canonical small_d.canonical
        (λ g. paid g (x_of x) w nx nw c k positive))

    pub less_holds : (ds : List Define) → fault (less_paid f x k n) ds (known at_start) before after ≡ None
    less_holds ds =
        fault_fact (range (unsigned x)) (less_wrapped f x k n) ds (known at_start) before after (l4 ∷ l5 ∷ []) refl (range_added x (known at_start))
        (fault_fact (wrapped_fact x k n) (less_numbers f x k n) ds (known ranged) before after (l6 ∷ l7 ∷ []) refl wrapped_added
        (fault_fact (num_is (unsigned_term x) (once 1 (pos 4) ∷ [])) (less_costs f x k n) ds (known wrapped) before after (l8 ∷ l9 ∷ []) refl x_added
        (fault_fact (less_fact x k n) (fact (cost_range f) (arithmetic (less_items k))) ds (known numbered) before after (l10 ∷ l11 ∷ []) refl less_added
        (fault_fact (cost_range f) (arithmetic (less_items k)) ds (known both_numbered) before after (single c ∷ []) refl refl
        (fault_arithmetic (less_items k) ds (known all_known) before after refl all_paid)))))
