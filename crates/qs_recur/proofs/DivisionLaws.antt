-- A call f(x / k) where x is at least n: the costs of x calls are those of one, and of x / k.
use Rattle.std.proofs.Common.{◌≡◌, ◌≤◌, ◌+◌, ◌-◌, ◌^◌, ℕ, refl, ap, ◌∙◌, arith, true, List, [], ◌∷◌, ◌++◌, Ok, None}
use Rattle.std.specs.Prelude.{ℤ, pos, negsuc, ◌+ℤ◌, ◌-ℤ◌, ◌*ℤ◌, nat_le}
use Rattle.std.proofs.lemmas.Int.{ints}
use Rattle.qs_base.specs.Results.{bind}
use Rattle.qs_assert.specs.declared.define.Define.{Define}
use Rattle.qs_assert.specs.declared.variable.VarKind.{VarKind}
use Rattle.qs_assert.specs.Trees.{div, CondTree, le, not, AssertionTree, cost, total, assertions_of}
use Rattle.qs_assert.specs.Trees as tree
use Rattle.qs_poly.specs.Polynomials as poly
use Rattle.qs_poly.specs.Polynomials.{AtomTree, Monomial, one, times, Polynomial}
use Rattle.qs_poly.specs.Operations.{sum, multiple, product, number, lessened, single}
use Rattle.qs_recur.specs.Needs.{unsigned, costs}
use Rattle.qs_recur.specs.Certificates.{unsigned_term, quotient_term, negative_items, low_items, high_items, never_negative, quotient_numbers, low_quotient, high_quotient, is_below, quotient_paid}
use Rattle.qs_poly.proofs.Ring.{add_mul}
use Rattle.qs_entail.specs.Building.{limited, difference, term_polynomial, at}
use Rattle.qs_entail.specs.Certificates.{once, twice, range, cost_range, num_is, quotient_bounds, split, contradict, arithmetic, fact}
use Rattle.qs_entail.specs.Facts.{added}
use Rattle.qs_entail.specs.Faults.{arithmetic_holds}
use Rattle.qs_entail.specs.Pushing.{Known, with_condition, with_polynomials, push}
use Rattle.qs_entail.specs.Verdicts.{fault}
use Rattle.qs_recur.proofs.Readings.{reading, one_times, sum_reading, multiple_reading, once_reading, number_reading, single_reading, difference_reading, one_less_reading, lessened_reading, negated_reading, with_atom, product_reading, found_equal}
use Rattle.qs_recur.proofs.Smallness.{Small, small_more, small_sum, small_multiple, small_number, small_single, small_difference, small_lessened}
use Rattle.qs_recur.proofs.StepLaws.{bound, fault_fact, fault_split, fault_contradict, fault_arithmetic}
use Rattle.qs_recur.proofs.SmallFacts.{no_limit, IsOne, IsKnown, one_number, one_single, one_is_two, two_is_known, two_difference, difference_is, number_is, x_of, range_added, num_added, once_gives, twice_gives, small_three, small_five, one_combined, three_combined, five_combined}
use Rattle.qs_recur.proofs.Identities.{less_number, x_less, once_of, greatest_unsigned, x_again, term_of, once_with, number_with, minus_one, three_read, four_read, once_with_reads, number_with_reads, term_reads, one_more}
use Rattle.qs_recur.proofs.SubtractionLaws.{costs_polynomial, more_polynomial, small_term, holds}
use Rattle.qs_recur.proofs.WayLaws.{contradicted, small_minus_one, known_limited, once_known}

-- ---- whole numbers

times_opposite_linear : (v a b kv ka kb s : ℤ) → s ≡ kv +ℤ ka +ℤ kb → s ≡ pos 0 → kv ≡ pos 0 -ℤ ka -ℤ kb
times_opposite_linear v a b kv ka kb s h i = omega (arith, ints, h, i)

nothing_left : (a b : ℤ) → pos 0 -ℤ a -ℤ b +ℤ a +ℤ b ≡ pos 0
nothing_left a b = omega (arith, ints)

times_zero : (k : ℤ) → k *ℤ pos 0 ≡ pos 0
times_zero k = omega (arith, ints)

-- k times 0 - a - b
times_opposite : (k a b : ℤ) → k *ℤ (pos 0 -ℤ a -ℤ b) ≡ pos 0 -ℤ k *ℤ a -ℤ k *ℤ b
times_opposite k a b =
    let v = pos 0 -ℤ a -ℤ b in
    times_opposite_linear v a b (k *ℤ v) (k *ℤ a) (k *ℤ b) (k *ℤ (v +ℤ a +ℤ b))
    (add_mul k (v +ℤ a) b ∙ ap (λ (z : ℤ). z +ℤ k *ℤ b) (add_mul k v a))
    (ap (λ (z : ℤ). k *ℤ z) (nothing_left a b) ∙ times_zero k)

times_less_linear : (ka kb kv : ℤ) → ka ≡ kv +ℤ kb → kv ≡ ka -ℤ kb
times_less_linear ka kb kv h = omega (arith, ints, h)

back_again : (a b : ℤ) → a ≡ (a -ℤ b) +ℤ b
back_again a b = omega (arith, ints)

times_less : (k a b : ℤ) → k *ℤ (a -ℤ b) ≡ k *ℤ a -ℤ k *ℤ b
times_less k a b = times_less_linear (k *ℤ a) (k *ℤ b) (k *ℤ (a -ℤ b)) (ap (λ (z : ℤ). k *ℤ z) (back_again a b) ∙ add_mul k (a -ℤ b) b)

negative_linear : (a b c x kd ku m u n : ℤ) → a ≡ pos 0 -ℤ kd -ℤ ku → b ≡ pos 0 -ℤ (x -ℤ kd -ℤ m) → c ≡ x → ku ≡ u +ℤ m → n ≡ pos 0 -ℤ u → a +ℤ b +ℤ c ≡ n
negative_linear a b c x kd ku m u n h i j k l = omega (arith, ints, h, i, j, k, l)

low_linear :
    (a b c e h nx nd x d nu mu u ra rb da : ℤ) → a ≡ nx -ℤ x → b ≡ d -ℤ nd → c ≡ x -ℤ nu → e ≡ mu → h ≡ u -ℤ d -ℤ u → nu ≡ u +ℤ mu → ra ≡ nx → rb ≡ u +ℤ nd → da ≡ ra -ℤ rb
    → a +ℤ b +ℤ c +ℤ e +ℤ h ≡ da
low_linear a b c e h nx nd x d nu mu u ra rb da i j k l m n o p q = omega (arith, ints, i, j, k, l, m, n, o, p, q)

high_linear :
    (a b c e h nx nd x d kd md mu lu u z ra rb da : ℤ) → a ≡ nx -ℤ x → b ≡ d -ℤ nd → c ≡ x -ℤ kd -ℤ z → z ≡ pos 0 → e ≡ md -ℤ mu → h ≡ lu → kd ≡ d +ℤ md → mu ≡ u +ℤ lu → ra ≡ nx → rb ≡ u +ℤ nd → da ≡ ra -ℤ rb
    → a +ℤ b +ℤ c +ℤ e +ℤ h ≡ da
high_linear a b c e h nx nd x d kd md mu lu u z ra rb da i j k zz l m n o p q r = omega (arith, ints, i, j, k, zz, l, m, n, o, p, q, r)

minus_linear : (u : ℤ) → negsuc 0 *ℤ u ≡ pos 0 -ℤ u
minus_linear u = omega (arith, ints)

zero_times_is : (u : ℤ) → pos 0 *ℤ u ≡ pos 0
zero_times_is u = omega (arith, ints)

two_less : (k : ℕ) → k - 1 - 1 ≡ k - 2
two_less k = omega arith

one_below : (k : ℕ) → 2 ≤ k → 1 ≤ k - 1
one_below k h = omega (arith, h)

five_read : (g : Monomial → ℤ) (p q r s t : Polynomial) → reading g (sum (sum (sum (sum p q) r) s) t) ≡ reading g p +ℤ reading g q +ℤ reading g r +ℤ reading g s +ℤ reading g t
five_read g p q r s t = sum_reading g (sum (sum (sum p q) r) s) t ∙ ap (λ (z : ℤ). z +ℤ reading g t) (four_read g p q r s)

-- ---- what the combinations read; d is the quotient_term of x by k

module _ (x d : Polynomial) (k : ℕ) where
  abbrev pub below_zero : Polynomial
  below_zero = lessened (number (pos 0)) 1 d 1

  abbrev pub below_one : Polynomial
  below_one = lessened (number (pos 1)) 1 d 1

  abbrev pub least_x : Polynomial
  least_x = lessened x k d 0

  abbrev pub rest_x : Polynomial
  rest_x = lessened x k d (k - 1)

  abbrev pub greatest_x : Polynomial
  greatest_x = multiple (negsuc 0) rest_x

  pub negative_reads : 1 ≤ k → (g : Monomial → ℤ) → reading g (sum (sum (multiple (pos k) below_zero) (once_of greatest_x)) (once_of (x_less x 0))) ≡ reading g minus_one
  negative_reads h g =
      let a = multiple (pos k) below_zero in
      let b = once_of greatest_x in
      let c = once_of (x_less x 0) in
      let u = g one in
      three_read g a b c
      ∙ negative_linear (reading g a) (reading g b) (reading g c) (reading g x) (pos k *ℤ reading g d) (pos k *ℤ u) (pos (k - 1) *ℤ u) u (reading g minus_one)
      (multiple_reading g (pos k) below_zero ∙ ap (λ (z : ℤ). pos k *ℤ z) (one_less_reading g (number (pos 0)) d) ∙ times_opposite (pos k) (reading g d) u)
      (once_reading g greatest_x ∙ negated_reading g rest_x ∙ ap (λ (z : ℤ). pos 0 -ℤ z) (lessened_reading g x k d (k - 1)))
      (x_again g x) (one_more k u h) (number_reading g (negsuc 0) ∙ minus_linear u)

  module _ (n m a : AtomTree) where
    abbrev pub paid_sum : AtomTree → Polynomial
    paid_sum b = sum (single a) (term_of b a)

    paid_reads : (g : Monomial → ℤ) → reading g (sum (single a) (term_of m a)) ≡ g (times a one) +ℤ reading (with_atom a g) (single m)
    paid_reads g =
        sum_reading g (single a) (term_of m a) ∙ ap (λ (z : ℤ). z +ℤ reading g (term_of m a)) (single_reading g a) ∙ ap (λ (z : ℤ). g (times a one) +ℤ z) (term_reads g m a)

    pub low_paid :
        (l : ℕ) → 1 ≤ l → (g : Monomial → ℤ)
        → reading g (sum (sum (sum (sum (once_with a (lessened (single n) 1 x 0)) (once_with a (lessened d 1 (single m) 0))) (once_with a (x_less x l))) (number_with a (l - 1))) (once_with a below_one))
        ≡ reading g (lessened (term_of n a) 1 (sum (single a) (term_of m a)) 0)
    low_paid l h g =
        let v = with_atom a g in
        let u = g (times a one) in
        let i = once_with a (lessened (single n) 1 x 0) in
        let j = once_with a (lessened d 1 (single m) 0) in
        let o = once_with a (x_less x l) in
        let p = number_with a (l - 1) in
        let q = once_with a below_one in
        five_read g i j o p q
        ∙ low_linear (reading g i) (reading g j) (reading g o) (reading g p) (reading g q) (reading v (single n)) (reading v (single m)) (reading v x) (reading v d) (pos l *ℤ u) (pos (l - 1) *ℤ u) u
        (reading g (term_of n a)) (reading g (sum (single a) (term_of m a))) (reading g (lessened (term_of n a) 1 (sum (single a) (term_of m a)) 0))
        (once_with_reads g a (lessened (single n) 1 x 0) ∙ difference_reading v (single n) x)
        (once_with_reads g a (lessened d 1 (single m) 0) ∙ difference_reading v d (single m))
        (once_with_reads g a (x_less x l) ∙ less_number v x l) (number_with_reads g a (l - 1))
        (once_with_reads g a below_one ∙ one_less_reading v (number (pos 1)) d ∙ ap (λ (z : ℤ). z -ℤ reading v d -ℤ u) (number_reading v (pos 1) ∙ one_times u))
        (one_more l u h) (term_reads g n a) (paid_reads g) (difference_reading g (term_of n a) (sum (single a) (term_of m a)))

    pub high_paid :
        2 ≤ k → (g : Monomial → ℤ)
        → reading g (sum (sum (sum (sum (once_with a (lessened (single n) 1 x 0)) (once_with a (lessened d 1 (single m) 0))) (once_with a least_x)) (multiple (pos (k - 1)) (product (x_less d 1) (single a)))) (number_with a (k - 2)))
        ≡ reading g (lessened (term_of n a) 1 (sum (single a) (term_of m a)) 0)
    high_paid h g =
        let v = with_atom a g in
        let u = g (times a one) in
        let i = once_with a (lessened (single n) 1 x 0) in
        let j = once_with a (lessened d 1 (single m) 0) in
        let o = once_with a least_x in
        let p = multiple (pos (k - 1)) (product (x_less d 1) (single a)) in
        let q = number_with a (k - 2) in
        five_read g i j o p q
        ∙ high_linear (reading g i) (reading g j) (reading g o) (reading g p) (reading g q) (reading v (single n)) (reading v (single m)) (reading v x) (reading v d)
        (pos k *ℤ reading v d) (pos (k - 1) *ℤ reading v d) (pos (k - 1) *ℤ u) (pos (k - 2) *ℤ u) u (pos 0 *ℤ u)
        (reading g (term_of n a)) (reading g (sum (single a) (term_of m a))) (reading g (lessened (term_of n a) 1 (sum (single a) (term_of m a)) 0))
        (once_with_reads g a (lessened (single n) 1 x 0) ∙ difference_reading v (single n) x)
        (once_with_reads g a (lessened d 1 (single m) 0) ∙ difference_reading v d (single m))
        (once_with_reads g a least_x ∙ lessened_reading v x k d 0) (zero_times_is u)
        (multiple_reading g (pos (k - 1)) (product (x_less d 1) (single a)) ∙ ap (λ (z : ℤ). pos (k - 1) *ℤ z) (product_reading g a (x_less d 1) ∙ less_number v d 1 ∙ ap (λ (z : ℤ). reading v d -ℤ z) (one_times u)) ∙ times_less (pos (k - 1)) (reading v d) u)
        (number_with_reads g a (k - 2))
        (one_more k (reading v d) (omega (arith, h)))
        (one_more (k - 1) u (one_below k h) ∙ ap (λ (z : ℕ). u +ℤ pos z *ℤ u) (two_less k))
        (term_reads g n a) (paid_reads g) (difference_reading g (term_of n a) (sum (single a) (term_of m a)))

-- ---- the certificate

one_at_most : (k : ℕ) → 1 ≤ k → nat_le 1 k ≡ true
one_at_most k h = grind arith

module _ (f : ℕ) (v : VarKind) (k n : ℕ) (two : 2 ≤ k) (k_fits : k ≤ 2 ^ 32) (positive : 1 ≤ n) (fits : n ≤ 2 ^ 32) where
  abbrev x : Polynomial
  x = x_of v

  abbrev d : Polynomial
  d = single (poly.div x k)

  abbrev nx : AtomTree
  nx = poly.num x

  abbrev nd : AtomTree
  nd = poly.num d

  abbrev c : AtomTree
  c = poly.cost f

  abbrev l0 : Polynomial
  l0 = number (pos 1)

  abbrev from_least : Polynomial
  from_least = x_less x n

  abbrev from_zero : Polynomial
  from_zero = x_less x 0

  abbrev to_greatest : Polynomial
  to_greatest = lessened greatest_unsigned 1 x 0

  abbrev d_from_zero : Polynomial
  d_from_zero = x_less d 0

  abbrev d_from_one : Polynomial
  d_from_one = x_less d 1

  abbrev nx_less : Polynomial
  nx_less = lessened (single nx) 1 x 0

  abbrev less_nx : Polynomial
  less_nx = lessened x 1 (single nx) 0

  abbrev nd_less : Polynomial
  nd_less = lessened (single nd) 1 d 0

  abbrev less_nd : Polynomial
  less_nd = lessened d 1 (single nd) 0

  x_one : IsOne x
  x_one = one_single (poly.variable (unsigned v)) tt

  d_one : IsOne d
  d_one = one_single (poly.div x k) x_one.canonical

  nx_one : IsOne (single nx)
  nx_one = one_single nx x_one.canonical

  nd_one : IsOne (single nd)
  nd_one = one_single nd d_one.canonical

  x_small : Small 1 1 1 x
  x_small = small_single (poly.variable (unsigned v)) tt

  d_small : Small 1 1 1 d
  d_small = small_single (poly.div x k) x_one.canonical

  number_small : (i : ℕ) → Small 1 i 1 (number (pos i))
  number_small i = small_more 1 i 0 1 i 1 (number (pos i)) (omega arith) (omega arith) (omega arith) (small_number (pos i))

  below_zero_small : Small 4 3 1 (below_zero x d k)
  below_zero_small = small_more 3 2 1 4 3 1 (below_zero x d k) (omega arith) (omega arith) (omega arith) (small_lessened 1 1 1 1 0 1 1 (number (pos 0)) d (omega arith) (number_small 0) d_small 1)

  below_one_small : Small 4 3 1 (below_one x d k)
  below_one_small = small_more 3 3 1 4 3 1 (below_one x d k) (omega arith) (omega arith) (omega arith) (small_lessened 1 1 1 1 1 1 1 (number (pos 1)) d (omega arith) (number_small 1) d_small 1)

  d_from_one_small : Small 4 2 1 d_from_one
  d_from_one_small = small_more 2 2 1 4 2 1 d_from_one (omega arith) (omega arith) (omega arith) (small_difference 1 1 1 1 1 d (number (pos 1)) d_small (number_small 1))

  pub least_x_known : IsKnown (least_x x d k)
  least_x_known = small_more 3 (1 + k + 0) 1 4 (2 ^ 34) 1 (least_x x d k) (omega arith) (omega (arith, k_fits)) (omega arith) (small_lessened 1 1 1 k 1 1 k x d (omega arith) x_small d_small 0)

  rest_x_known : IsKnown (rest_x x d k)
  rest_x_known = small_more 3 (1 + k + (k - 1)) 1 4 (2 ^ 34) 1 (rest_x x d k) (omega arith) (omega (arith, k_fits)) (omega arith) (small_lessened 1 1 1 k 1 1 k x d (omega arith) x_small d_small (k - 1))

  pub greatest_x_known : IsKnown (greatest_x x d k)
  greatest_x_known = small_multiple 4 (2 ^ 34) 1 (2 ^ 34) (negsuc 0) (rest_x x d k) (omega arith) rest_x_known

  from_zero_known : IsKnown from_zero
  from_zero_known = two_is_known from_zero (two_difference x (number (pos 0)) x_one (one_number 0 (omega arith)))

  from_least_known : IsKnown from_least
  from_least_known = two_is_known from_least (two_difference x (number (pos n)) x_one (one_number n fits))

  d_from_zero_known : IsKnown d_from_zero
  d_from_zero_known = two_is_known d_from_zero (two_difference d (number (pos 0)) d_one (one_number 0 (omega arith)))

  nx_less_known : IsKnown nx_less
  nx_less_known = two_is_known nx_less (two_difference (single nx) x nx_one x_one)

  less_nd_known : IsKnown less_nd
  less_nd_known = two_is_known less_nd (two_difference d (single nd) d_one nd_one)

  pub below_zero_known : IsKnown (below_zero x d k)
  below_zero_known = small_more 4 3 1 4 (2 ^ 34) 1 (below_zero x d k) (omega arith) (omega arith) (omega arith) below_zero_small

  below_one_known : IsKnown (below_one x d k)
  below_one_known = small_more 4 3 1 4 (2 ^ 34) 1 (below_one x d k) (omega arith) (omega arith) (omega arith) below_one_small

  -- ---- facts and hypotheses

  pub bounds_added : (k' : Known) → added (quotient_bounds (unsigned_term v) k) k' ≡ Ok (least_x x d k ∷ greatest_x x d k ∷ [])
  bounds_added k' =
      bound (limited (least_x x d k)) (least_x x d k) (λ a. bind (limited (greatest_x x d k)) (λ b. Ok (a ∷ b ∷ []))) (Ok (least_x x d k ∷ greatest_x x d k ∷ [])) (known_limited (least_x x d k) least_x_known)
      (bound (limited (greatest_x x d k)) (greatest_x x d k) (λ b. Ok (least_x x d k ∷ b ∷ [])) (Ok (least_x x d k ∷ greatest_x x d k ∷ [])) (known_limited (greatest_x x d k) greatest_x_known) refl)

  pub below_pushed :
      (i : ℕ) → i ≤ 2 ^ 32 → IsKnown (lessened (number (pos i)) 1 d 1) → (k' : Known)
      → push (is_below v k i) k' ≡ Ok (with_polynomials (lessened (number (pos i)) 1 d 1 ∷ []) (with_condition (is_below v k i) k'))
  below_pushed i h y k' =
      let r = lessened (number (pos i)) 1 d 1 in
      let done = with_polynomials (lessened (number (pos i)) 1 d 1 ∷ []) (with_condition (is_below v k i) k') in
      bound (term_polynomial (tree.number (pos i))) (number (pos i)) (λ q. bind (limited (lessened q 1 d 1)) (λ e. Ok (with_polynomials (e ∷ []) (with_condition (is_below v k i) k')))) (Ok done) (number_is i h)
      (bound (limited r) r (λ e. Ok (with_polynomials (e ∷ []) (with_condition (is_below v k i) k'))) (Ok done) (known_limited r y) refl)

  abbrev pub reached : ℕ → CondTree
  reached i = le (tree.number (pos i)) (quotient_term v k)

  pub reached_pushed : (i : ℕ) → i ≤ 2 ^ 32 → (k' : Known) → push (not (is_below v k i)) k' ≡ Ok (with_polynomials (x_less d i ∷ []) (with_condition (reached i) k'))
  reached_pushed i h k' =
      let done = with_polynomials (x_less d i ∷ []) (with_condition (reached i) k') in
      bound (term_polynomial (tree.number (pos i))) (number (pos i)) (λ p. bind (difference d p) (λ e. Ok (with_polynomials (e ∷ []) (with_condition (reached i) k')))) (Ok done) (number_is i h)
      (bound (difference d (number (pos i))) (x_less d i) (λ e. Ok (with_polynomials (e ∷ []) (with_condition (reached i) k'))) (Ok done) (difference_is d (number (pos i)) (one_is_two d d_one) (one_is_two (number (pos i)) (one_number i h))) refl)

  abbrev pub before : AssertionTree
  before = costs (unsigned_term v) f

  abbrev pub after : AssertionTree
  after = total (assertions_of (cost f ∷ costs (quotient_term v k) f ∷ []))

  small_a : Small 1 1 2 (term_of nx c)
  small_a = small_term nx c (small_single nx x_one.canonical) (small_single c tt)

  small_b : Small 2 2 2 (sum (single c) (term_of nd c))
  small_b =
      small_sum 1 1 1 1 2 (single c) (term_of nd c) (small_more 1 1 1 1 1 2 (single c) (omega arith) (omega arith) (omega arith) (small_single c tt)) (small_term nd c (small_single nd d_one.canonical) (small_single c tt))

  abbrev owed : Polynomial
  owed = lessened (term_of nx c) 1 (sum (single c) (term_of nd c)) 0

  owed_small : Small 3 3 2 owed
  owed_small = small_difference 1 1 2 2 2 (term_of nx c) (sum (single c) (term_of nd c)) small_a small_b

  module _ (cs : List CondTree) (l1 l2 : Polynomial) (ds : List Define) where
    -- ---- the quotient_term isn't never_negative

    abbrev pub negative_known : List Polynomial → Known
    negative_known more = record { conditions = cs ++ is_below v k 0 ∷ []; polynomials = l0 ∷ l1 ∷ l2 ∷ from_least ∷ below_zero x d k ∷ more }

    pub negative_holds : (p q : AssertionTree) → fault (never_negative v k) ds (negative_known []) p q ≡ None
    negative_holds p q =
        let ranged = negative_known (from_zero ∷ to_greatest ∷ []) in
        let divided = negative_known (from_zero ∷ to_greatest ∷ least_x x d k ∷ greatest_x x d k ∷ []) in
        let w = contradict (negative_items k) in
        let i = once_gives divided.polynomials k 4 3 (below_zero x d k) refl (omega (arith, k_fits)) below_zero_small in
        let j = once_known divided.polynomials 8 (greatest_x x d k) refl greatest_x_known in
        let o = once_known divided.polynomials 5 from_zero refl from_zero_known in
        let z = sum (sum (multiple (pos k) (below_zero x d k)) (once_of (greatest_x x d k))) (once_of from_zero) in
        fault_fact (range (unsigned v)) (fact (quotient_bounds (unsigned_term v) k) w) ds (negative_known []) p q (from_zero ∷ to_greatest ∷ []) refl (range_added v (negative_known []))
        (fault_fact (quotient_bounds (unsigned_term v) k) w ds ranged p q (least_x x d k ∷ greatest_x x d k ∷ []) (one_at_most k (omega (arith, two))) (bounds_added ranged)
        (fault_contradict (negative_items k) ds divided p q refl
        (contradicted (negative_items k) divided z (three_combined divided.polynomials (once k (pos 4)) (once 1 (pos 8)) (once 1 (pos 5)) (multiple (pos k) (below_zero x d k)) (once_of (greatest_x x d k)) (once_of from_zero) i j o)
        (found_equal z minus_one (small_three (multiple (pos k) (below_zero x d k)) (once_of (greatest_x x d k)) (once_of from_zero) i.1 j.1 o.1).canonical small_minus_one.canonical (λ g. negative_reads x d k (omega (arith, two)) g)))))

    -- ---- it is 0

    abbrev low_known : List Polynomial → Known
    low_known more = record { conditions = (cs ++ reached 0 ∷ []) ++ is_below v k 1 ∷ []; polynomials = l0 ∷ l1 ∷ l2 ∷ from_least ∷ d_from_zero ∷ below_one x d k ∷ more }

    abbrev low_all : Known
    low_all = low_known (from_zero ∷ to_greatest ∷ nx_less ∷ less_nx ∷ nd_less ∷ less_nd ∷ single c ∷ [])

    low_holds_items : arithmetic_holds (low_items n) low_all before after ≡ Ok tt
    low_holds_items =
        let one = λ (i : ℕ) (q : Polynomial) (h : at low_all.polynomials (pos i) ≡ q) (y : IsKnown q). twice_gives low_all.polynomials 1 i 12 (2 ^ 34) c q h refl (omega arith) (omega arith) tt y in
        let i = one 8 nx_less refl nx_less_known in
        let j = one 11 less_nd refl less_nd_known in
        let o = one 3 from_least refl from_least_known in
        let m = twice_gives low_all.polynomials (n - 1) 0 12 1 c l0 refl refl (omega arith) (omega (arith, fits)) tt (small_more 1 1 1 4 1 1 l0 (omega arith) (omega arith) (omega arith) (number_small 1)) in
        let e = one 5 (below_one x d k) refl below_one_known in
        let z = sum (sum (sum (sum (once_with c nx_less) (once_with c less_nd)) (once_with c from_least)) (number_with c (n - 1))) (once_with c (below_one x d k)) in
        holds (low_items n) low_all before after (term_of nx c) (sum (single c) (term_of nd c)) z (costs_polynomial (unsigned_term v) f x refl x_one) (more_polynomial (quotient_term v k) f d refl d_one)
        (five_combined low_all.polynomials (twice 1 (pos 8) (pos 12)) (twice 1 (pos 11) (pos 12)) (twice 1 (pos 3) (pos 12)) (twice (n - 1) (pos 0) (pos 12)) (twice 1 (pos 5) (pos 12))
        (once_with c nx_less) (once_with c less_nd) (once_with c from_least) (number_with c (n - 1)) (once_with c (below_one x d k)) i j o m e)
        (no_limit 3 3 2 owed (omega arith) (omega arith) (omega arith) owed_small)
        (found_equal z owed (small_five (once_with c nx_less) (once_with c less_nd) (once_with c from_least) (number_with c (n - 1)) (once_with c (below_one x d k)) i.1 j.1 o.1 m.1 e.1).canonical owed_small.canonical
        (λ g. low_paid x d k nx nd c n positive g))

    low_holds : fault (low_quotient f v k n) ds (low_known []) before after ≡ None
    low_holds =
        let last = arithmetic (low_items n) in
        let third = fact (cost_range f) last in
        let second = fact (num_is (quotient_term v k) (once 1 (pos 4) ∷ [])) third in
        let first = fact (num_is (unsigned_term v) (once 1 (pos 6) ∷ [])) second in
        let ranged = low_known (from_zero ∷ to_greatest ∷ []) in
        let numbered = low_known (from_zero ∷ to_greatest ∷ nx_less ∷ less_nx ∷ []) in
        let both = low_known (from_zero ∷ to_greatest ∷ nx_less ∷ less_nx ∷ nd_less ∷ less_nd ∷ []) in
        let a = once_known ranged.polynomials 6 from_zero refl from_zero_known in
        let b = once_known numbered.polynomials 4 d_from_zero refl d_from_zero_known in
        fault_fact (range (unsigned v)) first ds (low_known []) before after (from_zero ∷ to_greatest ∷ []) refl (range_added v (low_known []))
        (fault_fact (num_is (unsigned_term v) (once 1 (pos 6) ∷ [])) second ds ranged before after (nx_less ∷ less_nx ∷ []) refl
        (num_added (unsigned_term v) (once 1 (pos 6) ∷ []) ranged x (once_of from_zero) refl x_one (one_combined ranged.polynomials (once 1 (pos 6)) (once_of from_zero) a) (found_equal (once_of from_zero) x a.1.canonical x_one.canonical (λ g. x_again g x)))
        (fault_fact (num_is (quotient_term v k) (once 1 (pos 4) ∷ [])) third ds numbered before after (nd_less ∷ less_nd ∷ []) refl
        (num_added (quotient_term v k) (once 1 (pos 4) ∷ []) numbered d (once_of d_from_zero) refl d_one (one_combined numbered.polynomials (once 1 (pos 4)) (once_of d_from_zero) b) (found_equal (once_of d_from_zero) d b.1.canonical d_one.canonical (λ g. x_again g d)))
        (fault_fact (cost_range f) last ds both before after (single c ∷ []) refl refl (fault_arithmetic (low_items n) ds low_all before after refl low_holds_items))))

    -- ---- it is more

    abbrev high_known : List Polynomial → Known
    high_known more = record { conditions = (cs ++ reached 0 ∷ []) ++ reached 1 ∷ []; polynomials = l0 ∷ l1 ∷ l2 ∷ from_least ∷ d_from_zero ∷ d_from_one ∷ more }

    abbrev high_all : Known
    high_all = high_known (from_zero ∷ to_greatest ∷ least_x x d k ∷ greatest_x x d k ∷ nx_less ∷ less_nx ∷ nd_less ∷ less_nd ∷ single c ∷ [])

    high_holds_items : arithmetic_holds (high_items k) high_all before after ≡ Ok tt
    high_holds_items =
        let one = λ (i : ℕ) (q : Polynomial) (h : at high_all.polynomials (pos i) ≡ q) (y : IsKnown q). twice_gives high_all.polynomials 1 i 14 (2 ^ 34) c q h refl (omega arith) (omega arith) tt y in
        let i = one 10 nx_less refl nx_less_known in
        let j = one 13 less_nd refl less_nd_known in
        let o = one 8 (least_x x d k) refl least_x_known in
        let m = twice_gives high_all.polynomials (k - 1) 5 14 2 c d_from_one refl refl (omega arith) (omega (arith, k_fits)) tt d_from_one_small in
        let e = twice_gives high_all.polynomials (k - 2) 0 14 1 c l0 refl refl (omega arith) (omega (arith, k_fits)) tt (small_more 1 1 1 4 1 1 l0 (omega arith) (omega arith) (omega arith) (number_small 1)) in
        let r = multiple (pos (k - 1)) (product d_from_one (single c)) in
        let z = sum (sum (sum (sum (once_with c nx_less) (once_with c less_nd)) (once_with c (least_x x d k))) r) (number_with c (k - 2)) in
        holds (high_items k) high_all before after (term_of nx c) (sum (single c) (term_of nd c)) z (costs_polynomial (unsigned_term v) f x refl x_one) (more_polynomial (quotient_term v k) f d refl d_one)
        (five_combined high_all.polynomials (twice 1 (pos 10) (pos 14)) (twice 1 (pos 13) (pos 14)) (twice 1 (pos 8) (pos 14)) (twice (k - 1) (pos 5) (pos 14)) (twice (k - 2) (pos 0) (pos 14))
        (once_with c nx_less) (once_with c less_nd) (once_with c (least_x x d k)) r (number_with c (k - 2)) i j o m e)
        (no_limit 3 3 2 owed (omega arith) (omega arith) (omega arith) owed_small)
        (found_equal z owed (small_five (once_with c nx_less) (once_with c less_nd) (once_with c (least_x x d k)) r (number_with c (k - 2)) i.1 j.1 o.1 m.1 e.1).canonical owed_small.canonical
        (λ g. high_paid x d k nx nd c two g))

    high_holds : fault (high_quotient f v k) ds (high_known []) before after ≡ None
    high_holds =
        let last = arithmetic (high_items k) in
        let third = fact (cost_range f) last in
        let second = fact (num_is (quotient_term v k) (once 1 (pos 4) ∷ [])) third in
        let ranged = high_known (from_zero ∷ to_greatest ∷ []) in
        let divided = high_known (from_zero ∷ to_greatest ∷ least_x x d k ∷ greatest_x x d k ∷ []) in
        let numbered = high_known (from_zero ∷ to_greatest ∷ least_x x d k ∷ greatest_x x d k ∷ nx_less ∷ less_nx ∷ []) in
        let both = high_known (from_zero ∷ to_greatest ∷ least_x x d k ∷ greatest_x x d k ∷ nx_less ∷ less_nx ∷ nd_less ∷ less_nd ∷ []) in
        let a = once_known divided.polynomials 6 from_zero refl from_zero_known in
        let b = once_known numbered.polynomials 4 d_from_zero refl d_from_zero_known in
        fault_fact (range (unsigned v)) (fact (quotient_bounds (unsigned_term v) k) (quotient_numbers f v k (high_items k))) ds (high_known []) before after (from_zero ∷ to_greatest ∷ []) refl (range_added v (high_known []))
        (fault_fact (quotient_bounds (unsigned_term v) k) (quotient_numbers f v k (high_items k)) ds ranged before after (least_x x d k ∷ greatest_x x d k ∷ []) (one_at_most k (omega (arith, two))) (bounds_added ranged)
        (fault_fact (num_is (unsigned_term v) (once 1 (pos 6) ∷ [])) second ds divided before after (nx_less ∷ less_nx ∷ []) refl
        (num_added (unsigned_term v) (once 1 (pos 6) ∷ []) divided x (once_of from_zero) refl x_one (one_combined divided.polynomials (once 1 (pos 6)) (once_of from_zero) a) (found_equal (once_of from_zero) x a.1.canonical x_one.canonical (λ g. x_again g x)))
        (fault_fact (num_is (quotient_term v k) (once 1 (pos 4) ∷ [])) third ds numbered before after (nd_less ∷ less_nd ∷ []) refl
        (num_added (quotient_term v k) (once 1 (pos 4) ∷ []) numbered d (once_of d_from_zero) refl d_one (one_combined numbered.polynomials (once 1 (pos 4)) (once_of d_from_zero) b) (found_equal (once_of d_from_zero) d b.1.canonical d_one.canonical (λ g. x_again g d)))
        (fault_fact (cost_range f) last ds both before after (single c ∷ []) refl refl (fault_arithmetic (high_items k) ds high_all before after refl high_holds_items)))))

    -- ---- the whole

    pub quotient_holds : fault (quotient_paid f v k n) ds (record { conditions = cs; polynomials = l0 ∷ l1 ∷ l2 ∷ from_least ∷ [] }) before after ≡ None
    quotient_holds =
        let start : Known = record { conditions = cs; polynomials = l0 ∷ l1 ∷ l2 ∷ from_least ∷ [] } in
        let reaches : Known = record { conditions = cs ++ reached 0 ∷ []; polynomials = l0 ∷ l1 ∷ l2 ∷ from_least ∷ d_from_zero ∷ [] } in
        fault_split (is_below v k 0) (never_negative v k) (split (is_below v k 1) (low_quotient f v k n) (high_quotient f v k)) ds start (negative_known []) reaches before after
        (below_pushed 0 (omega arith) below_zero_known start) (reached_pushed 0 (omega arith) start) (negative_holds before after)
        (fault_split (is_below v k 1) (low_quotient f v k n) (high_quotient f v k) ds reaches (low_known []) (high_known []) before after
        (below_pushed 1 (omega arith) below_one_known reaches) (reached_pushed 1 (omega arith) reaches) low_holds high_holds)
