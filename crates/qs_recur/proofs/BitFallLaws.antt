-- T is the number of bits of x, and k is at least 2.
use Rattle.std.proofs.Common.{◌≡◌, ◌≤◌, ◌-◌, ◌^◌, ℕ, refl, ap, ◌∙◌, arith, true, List, [], ◌∷◌, ◌++◌, Ok, None}
use Rattle.std.specs.Prelude.{ℤ, pos, negsuc, ◌+ℤ◌, ◌-ℤ◌, ◌*ℤ◌, nat_le}
use Rattle.std.proofs.lemmas.Int.{ints}
use Rattle.qs_assert.specs.declared.define.Define.{Define}
use Rattle.qs_assert.specs.declared.variable.VarKind.{VarKind}
use Rattle.qs_assert.specs.Trees.{bits, CondTree, le, not, AssertionTree, cost, total, assertions_of}
use Rattle.qs_poly.specs.Polynomials as poly
use Rattle.qs_poly.specs.Polynomials.{AtomTree, Monomial, one, times, Polynomial}
use Rattle.qs_poly.specs.Operations.{sum, multiple, number, lessened, single}
use Rattle.qs_entail.specs.Building.{limited, difference, at}
use Rattle.qs_entail.specs.Certificates.{once, twice, cost_range, num_is, quotient_bounds, bits_bound, split, contradict, arithmetic, fact}
use Rattle.qs_entail.specs.Facts.{added}
use Rattle.qs_entail.specs.Faults.{arithmetic_holds}
use Rattle.qs_entail.specs.Pushing.{Known, with_condition, with_polynomials, push}
use Rattle.qs_entail.specs.Verdicts.{fault}
use Rattle.qs_recur.specs.Needs.{unsigned, costs}
use Rattle.qs_recur.specs.Certificates.{unsigned_term, quotient_term, half_term, never_negative, is_below, above_items, never_above, bit_items, bit_numbers, rise_fact, half_fact, one_bit_less, is_above_half, bits_paid}
use Rattle.qs_recur.proofs.Readings.{reading, sum_reading, multiple_reading, once_reading, number_reading, single_reading, difference_reading, one_less_reading, lessened_reading, negated_reading, with_atom, found_equal}
use Rattle.qs_recur.proofs.Smallness.{Small, small_more, small_sum, small_number, small_single, small_difference, small_one_less}
use Rattle.qs_recur.proofs.StepLaws.{bound, fault_fact, fault_split, fault_contradict, fault_arithmetic}
use Rattle.qs_recur.proofs.SmallFacts.{no_limit, IsOne, IsTwo, IsKnown, one_number, one_single, one_is_two, two_is_known, two_difference, difference_is, x_of, once_gives, twice_gives, small_two, small_four, one_combined, two_combined, four_combined}
use Rattle.qs_recur.proofs.Identities.{spread, not_below, x_less, once_of, number_times, term_of, once_with, minus_one, four_read, once_with_reads, term_reads}
use Rattle.qs_recur.proofs.SubtractionLaws.{costs_polynomial, more_polynomial, small_term, holds}
use Rattle.qs_recur.proofs.WayLaws.{contradicted, small_minus_one, known_limited, once_known}
use Rattle.qs_recur.proofs.DivisionLaws.{negative_holds, below_pushed, reached_pushed, below_zero_known, least_x, greatest_x, bounds_added, least_x_known, greatest_x_known, reached}
use Rattle.qs_recur.proofs.BitLaws.{bits_of, half_of, bit_less, bits_one, half_one, bit_less_known, half_added, rise_added, number_added}

-- ---- f(x / k) with k more than 2

crossed_linear : (a b c e x kd h2 d h u ld n z : ℤ) → a ≡ x -ℤ kd -ℤ z → z ≡ pos 0 → b ≡ pos 0 -ℤ (x -ℤ pos 2 *ℤ h -ℤ pos 1 *ℤ u) → c ≡ pos 2 *ℤ (d -ℤ h -ℤ u) → e ≡ ld → kd ≡ pos 2 *ℤ d +ℤ ld → n ≡ pos 0 -ℤ u → a +ℤ b +ℤ c +ℤ e ≡ n
crossed_linear a b c e x kd h2 d h u ld n z i zz j k l m o = omega (arith, ints, i, zz, j, k, l, m, o)

fallen_linear :
    (a b c e nx nd x d h u ra rb da : ℤ) → a ≡ nx -ℤ x → b ≡ x -ℤ h -ℤ u → c ≡ h -ℤ d → e ≡ d -ℤ nd → ra ≡ nx → rb ≡ u +ℤ nd → da ≡ ra -ℤ rb → a +ℤ b +ℤ c +ℤ e ≡ da
fallen_linear a b c e nx nd x d h u ra rb da i j k l m o p = omega (arith, ints, i, j, k, l, m, o, p)

minus_linear : (u : ℤ) → negsuc 0 *ℤ u ≡ pos 0 -ℤ u
minus_linear u = omega (arith, ints)

zero_times_is : (u : ℤ) → pos 0 *ℤ u ≡ pos 0
zero_times_is u = omega (arith, ints)

less_zero : (z : ℤ) → z -ℤ pos 0 ≡ z
less_zero z = omega (arith, ints)

abbrev crossing : Polynomial → Polynomial → Polynomial
crossing d h = lessened d 1 h 1

crossed_reads :
    (g : Monomial → ℤ) (x d h : Polynomial) (k : ℕ) → 2 ≤ k
    → reading g (sum (sum (sum (once_of (least_x x d k)) (once_of (greatest_x x h 2))) (multiple (pos 2) (crossing d h))) (multiple (pos (k - 2)) (x_less d 0))) ≡ reading g minus_one
crossed_reads g x d h k two =
    let a = once_of (least_x x d k) in
    let b = once_of (greatest_x x h 2) in
    let c = multiple (pos 2) (crossing d h) in
    let e = multiple (pos (k - 2)) (x_less d 0) in
    four_read g a b c e
    ∙ crossed_linear (reading g a) (reading g b) (reading g c) (reading g e) (reading g x) (pos k *ℤ reading g d) (pos 0) (reading g d) (reading g h) (g one) (pos (k - 2) *ℤ reading g d) (reading g minus_one) (pos 0 *ℤ g one)
    (once_reading g (least_x x d k) ∙ lessened_reading g x k d 0) (zero_times_is (g one))
    (once_reading g (greatest_x x h 2) ∙ negated_reading g (lessened x 2 h 1) ∙ ap (λ (z : ℤ). pos 0 -ℤ z) (lessened_reading g x 2 h 1))
    (multiple_reading g (pos 2) (crossing d h) ∙ ap (λ (z : ℤ). pos 2 *ℤ z) (one_less_reading g d h))
    (multiple_reading g (pos (k - 2)) (x_less d 0) ∙ ap (λ (z : ℤ). pos (k - 2) *ℤ z) (difference_reading g d (number (pos 0)) ∙ less_zero (reading g d)))
    (spread 2 k (reading g d) two) (number_reading g (negsuc 0) ∙ minus_linear (g one))

-- x times a is at least a and d times a, by way of h
fallen_paid :
    (g : Monomial → ℤ) (x d h : Polynomial) (n m a : AtomTree)
    → reading g (sum (sum (sum (once_with a (lessened (single n) 1 x 0)) (once_with a (lessened x 1 h 1))) (once_with a (lessened h 1 d 0))) (once_with a (lessened d 1 (single m) 0)))
    ≡ reading g (lessened (term_of n a) 1 (sum (single a) (term_of m a)) 0)
fallen_paid g x d h n m a =
    let v = with_atom a g in
    let u = g (times a one) in
    let i = once_with a (lessened (single n) 1 x 0) in
    let j = once_with a (lessened x 1 h 1) in
    let o = once_with a (lessened h 1 d 0) in
    let p = once_with a (lessened d 1 (single m) 0) in
    four_read g i j o p
    ∙ fallen_linear (reading g i) (reading g j) (reading g o) (reading g p) (reading v (single n)) (reading v (single m)) (reading v x) (reading v d) (reading v h) u (reading g (term_of n a)) (reading g (sum (single a) (term_of m a)))
    (reading g (lessened (term_of n a) 1 (sum (single a) (term_of m a)) 0))
    (once_with_reads g a (lessened (single n) 1 x 0) ∙ difference_reading v (single n) x)
    (once_with_reads g a (lessened x 1 h 1) ∙ one_less_reading v x h)
    (once_with_reads g a (lessened h 1 d 0) ∙ difference_reading v h d)
    (once_with_reads g a (lessened d 1 (single m) 0) ∙ difference_reading v d (single m))
    (term_reads g n a)
    (sum_reading g (single a) (term_of m a) ∙ ap (λ (z : ℤ). z +ℤ reading g (term_of m a)) (single_reading g a) ∙ ap (λ (z : ℤ). u +ℤ z) (term_reads g m a))
    (difference_reading g (term_of n a) (sum (single a) (term_of m a)))

at_least_one : (k : ℕ) → 1 ≤ k → nat_le 1 k ≡ true
at_least_one k h = grind arith

module _ (f : ℕ) (v : VarKind) (k n : ℕ) (two : 2 ≤ k) (k_fits : k ≤ 2 ^ 32) (positive : 1 ≤ n) (fits : n ≤ 2 ^ 32) where
  abbrev x : Polynomial
  x = x_of v

  abbrev d : Polynomial
  d = single (poly.div x k)

  abbrev h : Polynomial
  h = half_of x

  abbrev bx : Polynomial
  bx = bits_of x

  abbrev bd : Polynomial
  bd = bits_of d

  abbrev bh : Polynomial
  bh = bits_of h

  abbrev nx : AtomTree
  nx = poly.num bx

  abbrev nd : AtomTree
  nd = poly.num bd

  abbrev c : AtomTree
  c = poly.cost f

  abbrev l0 : Polynomial
  l0 = number (pos 1)

  abbrev from_least : Polynomial
  from_least = x_less x n

  abbrev d_from_zero : Polynomial
  d_from_zero = x_less d 0

  abbrev below_half : Polynomial
  below_half = lessened h 1 d 0

  abbrev fall : Polynomial
  fall = lessened bh 1 bd 0

  abbrev nx_less : Polynomial
  nx_less = lessened (single nx) 1 bx 0

  abbrev less_nx : Polynomial
  less_nx = lessened bx 1 (single nx) 0

  abbrev nd_less : Polynomial
  nd_less = lessened (single nd) 1 bd 0

  abbrev less_nd : Polynomial
  less_nd = lessened bd 1 (single nd) 0

  x_one : IsOne x
  x_one = one_single (poly.variable (unsigned v)) tt

  d_one : IsOne d
  d_one = one_single (poly.div x k) x_one.canonical

  h_one : IsOne h
  h_one = half_one x x_one

  bx_one : IsOne bx
  bx_one = bits_one x x_one

  bd_one : IsOne bd
  bd_one = bits_one d d_one

  bh_one : IsOne bh
  bh_one = bits_one h h_one

  nx_one : IsOne (single nx)
  nx_one = one_single nx bx_one.canonical

  nd_one : IsOne (single nd)
  nd_one = one_single nd bd_one.canonical

  from_least_two : IsTwo from_least
  from_least_two = two_difference x (number (pos n)) x_one (one_number n fits)

  below_half_two : IsTwo below_half
  below_half_two = two_difference h d h_one d_one

  fall_two : IsTwo fall
  fall_two = two_difference bh bd bh_one bd_one

  d_small : Small 1 1 1 d
  d_small = small_single (poly.div x k) x_one.canonical

  crossing_small : Small 4 3 1 (crossing d h)
  crossing_small = small_more 3 3 1 4 3 1 (crossing d h) (omega arith) (omega arith) (omega arith) (small_one_less 1 1 1 1 1 d h d_small (small_single (poly.div x 2) x_one.canonical))

  crossing_known : IsKnown (crossing d h)
  crossing_known = small_more 4 3 1 4 (2 ^ 34) 1 (crossing d h) (omega arith) (omega arith) (omega arith) crossing_small

  d_from_zero_small : Small 4 1 1 d_from_zero
  d_from_zero_small =
      small_more 2 1 1 4 1 1 d_from_zero (omega arith) (omega arith) (omega arith) (small_difference 1 1 1 0 1 d (number (pos 0)) d_small (small_more 1 0 0 1 0 1 (number (pos 0)) (omega arith) (omega arith) (omega arith) (small_number (pos 0))))

  abbrev pub before : AssertionTree
  before = costs (bits (unsigned_term v)) f

  abbrev pub after : AssertionTree
  after = total (assertions_of (cost f ∷ costs (bits (quotient_term v k)) f ∷ []))

  small_a : Small 1 1 2 (term_of nx c)
  small_a = small_term nx c (small_single nx bx_one.canonical) (small_single c tt)

  small_b : Small 2 2 2 (sum (single c) (term_of nd c))
  small_b =
      small_sum 1 1 1 1 2 (single c) (term_of nd c) (small_more 1 1 1 1 1 2 (single c) (omega arith) (omega arith) (omega arith) (small_single c tt)) (small_term nd c (small_single nd bd_one.canonical) (small_single c tt))

  abbrev owed : Polynomial
  owed = lessened (term_of nx c) 1 (sum (single c) (term_of nd c)) 0

  owed_small : Small 3 3 2 owed
  owed_small = small_difference 1 1 2 2 2 (term_of nx c) (sum (single c) (term_of nd c)) small_a small_b

  crossed_pushed : (k' : Known) → push (is_above_half v k) k' ≡ Ok (with_polynomials (crossing d h ∷ []) (with_condition (is_above_half v k) k'))
  crossed_pushed k' =
      bound (limited (crossing d h)) (crossing d h) (λ e. Ok (with_polynomials (e ∷ []) (with_condition (is_above_half v k) k'))) (Ok (with_polynomials (crossing d h ∷ []) (with_condition (is_above_half v k) k'))) (known_limited (crossing d h) crossing_known) refl

  fallen_pushed : (k' : Known) → push (not (is_above_half v k)) k' ≡ Ok (with_polynomials (below_half ∷ []) (with_condition (le (quotient_term v k) (half_term v)) k'))
  fallen_pushed k' =
      bound (difference h d) below_half (λ e. Ok (with_polynomials (e ∷ []) (with_condition (le (quotient_term v k) (half_term v)) k'))) (Ok (with_polynomials (below_half ∷ []) (with_condition (le (quotient_term v k) (half_term v)) k')))
      (difference_is h d (one_is_two h h_one) (one_is_two d d_one)) refl

  module _ (cs : List CondTree) (l1 l2 : Polynomial) (ds : List Define) where
    abbrev crossed_known : List Polynomial → Known
    crossed_known more = record { conditions = (cs ++ reached f v k n two k_fits positive fits 0 ∷ []) ++ is_above_half v k ∷ []; polynomials = l0 ∷ l1 ∷ l2 ∷ from_least ∷ d_from_zero ∷ crossing d h ∷ more }

    crossed_holds : fault (never_above v k) ds (crossed_known []) before after ≡ None
    crossed_holds =
        let a = least_x x d k in
        let b = greatest_x x d k in
        let e = least_x x h 2 in
        let r = greatest_x x h 2 in
        let k1 = crossed_known (least_x x d k ∷ greatest_x x d k ∷ []) in
        let k2 = crossed_known (least_x x d k ∷ greatest_x x d k ∷ least_x x h 2 ∷ greatest_x x h 2 ∷ []) in
        let w = contradict (above_items k) in
        let i = once_known k2.polynomials 6 a refl (least_x_known f v k n two k_fits positive fits) in
        let j = once_known k2.polynomials 9 r refl (greatest_x_known f v 2 n (omega arith) (omega arith) positive fits) in
        let o = once_gives k2.polynomials 2 5 3 (crossing d h) refl (omega arith) crossing_small in
        let m = once_gives k2.polynomials (k - 2) 4 1 d_from_zero refl (omega (arith, k_fits)) d_from_zero_small in
        let z = sum (sum (sum (once_of a) (once_of r)) (multiple (pos 2) (crossing d h))) (multiple (pos (k - 2)) d_from_zero) in
        fault_fact (quotient_bounds (unsigned_term v) k) (fact (quotient_bounds (unsigned_term v) 2) w) ds (crossed_known []) before after (a ∷ b ∷ []) (at_least_one k (omega (arith, two))) (bounds_added f v k n two k_fits positive fits (crossed_known []))
        (fault_fact (quotient_bounds (unsigned_term v) 2) w ds k1 before after (e ∷ r ∷ []) refl (bounds_added f v 2 n (omega arith) (omega arith) positive fits k1)
        (fault_contradict (above_items k) ds k2 before after refl
        (contradicted (above_items k) k2 z (four_combined k2.polynomials (once 1 (pos 6)) (once 1 (pos 9)) (once 2 (pos 5)) (once (k - 2) (pos 4)) (once_of a) (once_of r) (multiple (pos 2) (crossing d h)) (multiple (pos (k - 2)) d_from_zero) i j o m)
        (found_equal z minus_one (small_four (once_of a) (once_of r) (multiple (pos 2) (crossing d h)) (multiple (pos (k - 2)) d_from_zero) i.1 j.1 o.1 m.1).canonical small_minus_one.canonical (λ g. crossed_reads g x d h k two)))))

    abbrev less : Polynomial
    less = multiple (negsuc 0) (bit_less x)

    abbrev fallen_known : List Polynomial → Known
    fallen_known more = record { conditions = (cs ++ reached f v k n two k_fits positive fits 0 ∷ []) ++ le (quotient_term v k) (half_term v) ∷ []; polynomials = l0 ∷ l1 ∷ l2 ∷ from_least ∷ d_from_zero ∷ below_half ∷ more }

    abbrev k1 : Known
    k1 = fallen_known (fall ∷ [])

    abbrev k2 : Known
    k2 = fallen_known (fall ∷ bit_less x ∷ less ∷ [])

    abbrev k3 : Known
    k3 = fallen_known (fall ∷ bit_less x ∷ less ∷ bx ∷ [])

    abbrev k4 : Known
    k4 = fallen_known (fall ∷ bit_less x ∷ less ∷ bx ∷ nx_less ∷ less_nx ∷ [])

    abbrev k5 : Known
    k5 = fallen_known (fall ∷ bit_less x ∷ less ∷ bx ∷ nx_less ∷ less_nx ∷ bd ∷ [])

    abbrev k6 : Known
    k6 = fallen_known (fall ∷ bit_less x ∷ less ∷ bx ∷ nx_less ∷ less_nx ∷ bd ∷ nd_less ∷ less_nd ∷ [])

    abbrev k7 : Known
    k7 = fallen_known (fall ∷ bit_less x ∷ less ∷ bx ∷ nx_less ∷ less_nx ∷ bd ∷ nd_less ∷ less_nd ∷ single c ∷ [])

    rise_is : added (rise_fact v k) (fallen_known []) ≡ Ok (fall ∷ [])
    rise_is =
        let k0 = fallen_known [] in
        let a = once_known k0.polynomials 5 below_half refl (two_is_known below_half below_half_two) in
        rise_added (quotient_term v k) (half_term v) (once 1 (pos 5) ∷ []) k0 d h (once_of below_half) refl refl d_one h_one (one_combined k0.polynomials (once 1 (pos 5)) (once_of below_half) a)
        (found_equal (once_of below_half) below_half a.1.canonical below_half_two.canonical (λ g. once_reading g below_half))

    half_is : added (half_fact v n) k1 ≡ Ok (bit_less x ∷ less ∷ [])
    half_is =
        let a = once_known k1.polynomials 3 from_least refl (two_is_known from_least from_least_two) in
        let b = once_gives k1.polynomials (n - 1) 0 1 l0 refl (omega (arith, fits)) (small_more 1 1 0 4 1 1 l0 (omega arith) (omega arith) (omega arith) (small_number (pos 1))) in
        half_added (unsigned_term v) (once 1 (pos 3) ∷ once (n - 1) (pos 0) ∷ []) k1 x (sum (once_of from_least) (number_times (n - 1))) refl x_one
        (two_combined k1.polynomials (once 1 (pos 3)) (once (n - 1) (pos 0)) (once_of from_least) (number_times (n - 1)) a b)
        (found_equal (sum (once_of from_least) (number_times (n - 1))) (x_less x 1) (small_two (once_of from_least) (number_times (n - 1)) a.1 b.1).canonical (two_difference x (number (pos 1)) x_one (one_number 1 (omega arith))).canonical
        (λ g. not_below g x 1 n positive))

    items_hold : arithmetic_holds bit_items k7 before after ≡ Ok tt
    items_hold =
        let one = λ (i : ℕ) (q : Polynomial) (e : at k7.polynomials (pos i) ≡ q) (y : IsKnown q). twice_gives k7.polynomials 1 i 15 (2 ^ 34) c q e refl (omega arith) (omega arith) tt y in
        let i = one 10 nx_less refl (two_is_known nx_less (two_difference (single nx) bx nx_one bx_one)) in
        let j = one 7 (bit_less x) refl (bit_less_known x x_one) in
        let o = one 6 fall refl (two_is_known fall fall_two) in
        let m = one 14 less_nd refl (two_is_known less_nd (two_difference bd (single nd) bd_one nd_one)) in
        let z = sum (sum (sum (once_with c nx_less) (once_with c (bit_less x))) (once_with c fall)) (once_with c less_nd) in
        holds bit_items k7 before after (term_of nx c) (sum (single c) (term_of nd c)) z (costs_polynomial (bits (unsigned_term v)) f bx refl bx_one) (more_polynomial (bits (quotient_term v k)) f bd refl bd_one)
        (four_combined k7.polynomials (twice 1 (pos 10) (pos 15)) (twice 1 (pos 7) (pos 15)) (twice 1 (pos 6) (pos 15)) (twice 1 (pos 14) (pos 15)) (once_with c nx_less) (once_with c (bit_less x)) (once_with c fall) (once_with c less_nd) i j o m)
        (no_limit 3 3 2 owed (omega arith) (omega arith) (omega arith) owed_small)
        (found_equal z owed (small_four (once_with c nx_less) (once_with c (bit_less x)) (once_with c fall) (once_with c less_nd) i.1 j.1 o.1 m.1).canonical owed_small.canonical (λ g. fallen_paid g bx bd bh nx nd c))

    fallen_holds : fault (one_bit_less f v k n) ds (fallen_known []) before after ≡ None
    fallen_holds =
        let last = arithmetic bit_items in
        let fifth = fact (cost_range f) last in
        let fourth = fact (num_is (bits (quotient_term v k)) (once 1 (pos 12) ∷ [])) fifth in
        let third = fact (bits_bound (quotient_term v k)) fourth in
        let second = fact (num_is (bits (unsigned_term v)) (once 1 (pos 9) ∷ [])) third in
        fault_fact (rise_fact v k) (fact (half_fact v n) (bit_numbers f v k)) ds (fallen_known []) before after (fall ∷ []) refl rise_is
        (fault_fact (half_fact v n) (bit_numbers f v k) ds k1 before after (bit_less x ∷ less ∷ []) refl half_is
        (fault_fact (bits_bound (unsigned_term v)) second ds k2 before after (bx ∷ []) refl refl
        (fault_fact (num_is (bits (unsigned_term v)) (once 1 (pos 9) ∷ [])) third ds k3 before after (nx_less ∷ less_nx ∷ []) refl (number_added (bits (unsigned_term v)) k3 9 bx refl bx_one refl)
        (fault_fact (bits_bound (quotient_term v k)) fourth ds k4 before after (bd ∷ []) refl refl
        (fault_fact (num_is (bits (quotient_term v k)) (once 1 (pos 12) ∷ [])) fifth ds k5 before after (nd_less ∷ less_nd ∷ []) refl (number_added (bits (quotient_term v k)) k5 12 bd refl bd_one refl)
        (fault_fact (cost_range f) last ds k6 before after (single c ∷ []) refl refl (fault_arithmetic bit_items ds k7 before after refl items_hold)))))))

    pub bits_hold : fault (bits_paid f v k n) ds (record { conditions = cs; polynomials = l0 ∷ l1 ∷ l2 ∷ from_least ∷ [] }) before after ≡ None
    bits_hold =
        let start : Known = record { conditions = cs; polynomials = l0 ∷ l1 ∷ l2 ∷ from_least ∷ [] } in
        let below : Known = record { conditions = cs ++ is_below v k 0 ∷ []; polynomials = l0 ∷ l1 ∷ l2 ∷ from_least ∷ lessened (number (pos 0)) 1 d 1 ∷ [] } in
        let reaches : Known = record { conditions = cs ++ reached f v k n two k_fits positive fits 0 ∷ []; polynomials = l0 ∷ l1 ∷ l2 ∷ from_least ∷ d_from_zero ∷ [] } in
        fault_split (is_below v k 0) (never_negative v k) (split (is_above_half v k) (never_above v k) (one_bit_less f v k n)) ds start below reaches before after
        (below_pushed f v k n two k_fits positive fits 0 (omega arith) (below_zero_known f v k n two k_fits positive fits) start) (reached_pushed f v k n two k_fits positive fits 0 (omega arith) start)
        (negative_holds f v k n two k_fits positive fits cs l1 l2 ds before after)
        (fault_split (is_above_half v k) (never_above v k) (one_bit_less f v k n) ds reaches (crossed_known []) (fallen_known []) before after (crossed_pushed reaches) (fallen_pushed reaches) crossed_holds fallen_holds)
