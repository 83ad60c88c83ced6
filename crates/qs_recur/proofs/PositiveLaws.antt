-- Where the sum of what helpers take is small, what each needs is: no coefficient is negative, so nothing cancels.
use Rattle.std.proofs.Common.{◌≡◌, ◌≤◌, ◌+◌, ℕ, zero, suc, refl, sym, ap, ◌∙◌, subst, arith, Bool, true, List, [], ◌∷◌, Ok}
use Rattle.std.specs.List.{list_all}
use Rattle.std.specs.Prelude.{ℤ, pos, negsuc, ◌+ℤ◌, ◌&&◌}
use Rattle.std.proofs.lemmas.Bool.{eqb-true, and_parts}
use Rattle.std.proofs.lemmas.Int.{ints}
use Rattle.std.specs.declared.cmp.Ordering.{Ordering}
use Rattle.std.specs.declared.cmp.Ordering.TheVariants.{Less, Equal, Greater}
use Rattle.qs_base.specs.Results.{bind}
use Rattle.qs_assert.specs.Trees.{AssertionTree, natural, infinity, cost, num, total, greatest, product, guard, choose, named, AssertionTrees, no_assertions, assertion_and, assertions_of}
use Rattle.qs_poly.specs.Canonical.{IsCanonical}
use Rattle.qs_poly.specs.Limits.{count_terms}
use Rattle.qs_poly.specs.Operations.{by_order, plus_unless_zero, insert_term, sum, number, single}
use Rattle.qs_poly.specs.Orders.{monomial_cmp}
use Rattle.qs_poly.specs.Polynomials as poly
use Rattle.qs_poly.specs.Polynomials.{Monomial, Polynomial, nothing, plus}
use Rattle.qs_poly.proofs.Coefficients.{sum_canonical}
use Rattle.qs_recur.proofs.Readings.{reading, sum_reading, read_alike}
use Rattle.qs_recur.proofs.Smallness.{IsLow, weight, small_single}
use Rattle.qs_entail.specs.Building.{limited, assertion_polynomial, total_onto}
use Rattle.qs_recur.specs.Needs.{Helper, members, helpers_need}
use Rattle.qs_recur.specs.Sizes.{is_of_costs, all_of_costs}
use Rattle.qs_recur.proofs.CostsLaws.{AreOfCosts, members_of_costs}
use Rattle.qs_recur.proofs.HelperLaws.{is_sum, are_sums, AreSums}
use Rattle.qs_recur.proofs.SumLaws.{HasLittle, IsLittle, canonical_costs, limited_is, result_before, one_ok}

-- each coefficient is at least 1
abbrev pub IsPositive : Polynomial → Type 0
IsPositive nothing = Unit {0}
IsPositive (plus (pos zero) m p) = ⊥
IsPositive (plus (pos (suc c)) m p) = IsPositive p
IsPositive (plus (negsuc c) m p) = ⊥

by_order_all : {A : Type 0} (o : Ordering) (a b c : A) (Q : A → Type 0) → Q a → Q b → Q c → Q (by_order o a b c)
by_order_all Less a b c Q x y z = x
by_order_all Equal a b c Q x y z = y
by_order_all Greater a b c Q x y z = z

more_than_one : (a b : ℕ) → pos (suc a) +ℤ pos (suc b) ≡ pos (suc (a + suc b))
more_than_one a b = omega (arith, ints)

-- a positive term more
insert_positive : (c : ℕ) (m : Monomial) (p : Polynomial) → IsPositive p → IsPositive (insert_term (pos (suc c)) m p)
insert_positive c m nothing x = tt
insert_positive c m (plus (pos zero) n p) x = absurd x
insert_positive c m (plus (negsuc d) n p) x = absurd x
insert_positive c m (plus (pos (suc d)) n p) x =
    by_order_all (monomial_cmp m n) _ _ _ IsPositive x
    (subst (λ k. IsPositive (plus_unless_zero k n p)) (sym (more_than_one c d)) x)
    (insert_positive c m p x)

insert_count : (c : ℕ) (m : Monomial) (p : Polynomial) → IsPositive p → count_terms p ≤ count_terms (insert_term (pos (suc c)) m p)
insert_count c m nothing x = omega arith
insert_count c m (plus (pos zero) n p) x = absurd x
insert_count c m (plus (negsuc d) n p) x = absurd x
insert_count c m (plus (pos (suc d)) n p) x =
    by_order_all (monomial_cmp m n) _ _ _ (λ q. count_terms p + 1 ≤ count_terms q) (omega arith)
    (subst (λ k. count_terms p + 1 ≤ count_terms (plus_unless_zero k n p)) (sym (more_than_one c d)) (omega arith))
    (let h = insert_count c m p x in omega (arith, h))

insert_weight : (c : ℕ) (m : Monomial) (p : Polynomial) → IsPositive p → weight p ≤ weight (insert_term (pos (suc c)) m p)
insert_weight c m nothing x = omega arith
insert_weight c m (plus (pos zero) n p) x = absurd x
insert_weight c m (plus (negsuc d) n p) x = absurd x
insert_weight c m (plus (pos (suc d)) n p) x =
    by_order_all (monomial_cmp m n) _ _ _ (λ q. suc d + weight p ≤ weight q) (omega arith)
    (subst (λ k. suc d + weight p ≤ weight (plus_unless_zero k n p)) (sym (more_than_one c d)) (omega arith))
    (let h = insert_weight c m p x in omega (arith, h))

insert_low : (e c : ℕ) (m : Monomial) (p : Polynomial) → IsPositive p → IsLow e (insert_term (pos (suc c)) m p) → IsLow e p
insert_low e c m nothing x l = tt
insert_low e c m (plus (pos zero) n p) x l = absurd x
insert_low e c m (plus (negsuc d) n p) x l = absurd x
insert_low e c m (plus (pos (suc d)) n p) x l =
    by_order_all (monomial_cmp m n) (plus (pos (suc c)) m (plus (pos (suc d)) n p)) (plus_unless_zero (pos (suc c) +ℤ pos (suc d)) n p) (plus (pos (suc d)) n (insert_term (pos (suc c)) m p)) (λ q. IsLow e q → IsLow e (plus (pos (suc d)) n p))
    (λ l. l.1)
    (λ l. subst (λ k. IsLow e (plus_unless_zero k n p)) (more_than_one c d) l)
    (λ l. (l.0, insert_low e c m p x l.1))
    l

-- a sum has no less than its second part
pub record IsMore (p q : Polynomial) : Type 0 where
  pub few : count_terms q ≤ count_terms p
  pub light : weight q ≤ weight p
  pub low : (e : ℕ) → IsLow e p → IsLow e q
  pub positive : IsPositive p

second_less : (p q : Polynomial) → IsPositive p → IsPositive q → IsMore (sum p q) q
second_less nothing q x y = record { few = omega arith; light = omega arith; low = λ e l. l; positive = y }
second_less (plus (pos zero) m p) q x y = absurd x
second_less (plus (negsuc c) m p) q x y = absurd x
second_less (plus (pos (suc c)) m p) q x y =
    let r = second_less p (insert_term (pos (suc c)) m q) x (insert_positive c m q y) in
    let f = r.few in
    let l = r.light in
    let a = insert_count c m q y in
    let b = insert_weight c m q y in
    record { few = omega (arith, f, a); light = omega (arith, l, b); low = λ e z. insert_low e c m q y (r.low e z); positive = r.positive }

turned : (p q : Polynomial) → IsCanonical p → IsCanonical q → sum p q ≡ sum q p
turned p q x y =
    read_alike (sum p q) (sum q p) (sum_canonical p q x y) (sum_canonical q p y x)
    (λ g. sum_reading g p q ∙ (swapped (reading g p) (reading g q) ∙ sym (sum_reading g q p)))
  where
    swapped : (a b : ℤ) → a +ℤ b ≡ b +ℤ a
    swapped a b = omega (arith, ints)

first_less : (p q : Polynomial) → IsCanonical p → IsCanonical q → IsPositive p → IsPositive q → IsMore (sum p q) p
first_less p q x y a b = subst (λ (s : Polynomial). IsMore s p) (turned q p y x) (second_less q p b a)

-- ---- the polynomials of sums of costs

mutual
  pub positive_costs : (a : AssertionTree) (p : Polynomial) → is_sum a ≡ true → assertion_polynomial a ≡ Ok p → IsPositive p
  positive_costs (natural n) p s h =
      subst IsPositive (limited_is (number (pos n)) p h) (subst (λ (i : ℕ). IsPositive (number (pos i))) (sym (eqb-true n 0 s)) tt)
  positive_costs infinity p s h = cc
  positive_costs (cost f) p s h = subst IsPositive (one_ok (single (poly.cost f)) p (Ok (single (poly.cost f))) refl h) tt
  positive_costs (num t) p s h = cc
  positive_costs (total summands) p s h = positive_sum summands nothing p s tt h
  positive_costs (greatest members) p s h = cc
  positive_costs (product factors) p s h = cc
  positive_costs (guard c a) p s h = cc
  positive_costs (choose c a b) p s h = cc
  positive_costs (named n) p s h = cc

  positive_sum : (summands : AssertionTrees) (so_far p : Polynomial) → are_sums summands ≡ true → IsPositive so_far → total_onto summands so_far ≡ Ok p → IsPositive p
  positive_sum no_assertions so_far p s x h = subst IsPositive (one_ok so_far p (Ok so_far) refl h) x
  positive_sum (assertion_and a others) so_far p s x h =
      let b = and_parts (is_sum a) (are_sums others) s in
      let q = result_before (assertion_polynomial a) (λ q. bind (limited (sum so_far q)) (λ r. total_onto others r)) p h in
      let r = result_before (limited (sum so_far q.0)) (λ r. total_onto others r) p q.2 in
      positive_sum others r.0 p b.1 (subst IsPositive (limited_is (sum so_far q.0) r.0 r.1) (second_less so_far q.0 x (positive_costs a q.0 b.0 q.1)).positive) r.2

-- what a sum came to is no less than what it had
grown : (summands : AssertionTrees) (so_far p : Polynomial) → are_sums summands ≡ true → all_of_costs summands ≡ true → IsCanonical so_far → IsPositive so_far → total_onto summands so_far ≡ Ok p → IsMore p so_far
grown no_assertions so_far p s o c x h =
    subst (λ (q : Polynomial). IsMore q so_far) (one_ok so_far p (Ok so_far) refl h) (record { few = omega arith; light = omega arith; low = λ e l. l; positive = x })
grown (assertion_and a others) so_far p s o c x h =
    let b = and_parts (is_sum a) (are_sums others) s in
    let d = and_parts (is_of_costs a) (all_of_costs others) o in
    let q = result_before (assertion_polynomial a) (λ q. bind (limited (sum so_far q)) (λ r. total_onto others r)) p h in
    let r = result_before (limited (sum so_far q.0)) (λ r. total_onto others r) p q.2 in
    let is = limited_is (sum so_far q.0) r.0 r.1 in
    let y = positive_costs a q.0 b.0 q.1 in
    let z = canonical_costs a q.0 d.0 q.1 in
    let first = first_less so_far q.0 c z x y in
    let rest = grown others r.0 p b.1 d.1 (subst IsCanonical is (sum_canonical so_far q.0 c z)) (subst IsPositive is first.positive) r.2 in
    let f = subst (λ (s : Polynomial). count_terms so_far ≤ count_terms s) is first.few in
    let w = subst (λ (s : Polynomial). weight so_far ≤ weight s) is first.light in
    let few = rest.few in
    let light = rest.light in
    record { few = omega (arith, f, few); light = omega (arith, w, light); low = λ e l. first.low e (subst (λ (s : Polynomial). IsLow e s) (sym is) (rest.low e l)); positive = rest.positive }

-- each summand is little where the sum is
less_is_little : (p q : Polynomial) → IsCanonical q → IsMore p q → IsLittle p → IsLittle q
less_is_little p q c m l =
    let a = m.few in
    let b = m.light in
    let few = l.few in
    let light = l.light in
    record { canonical = c; few = omega (arith, a, few); light = omega (arith, b, light); low = m.low 2 l.low }

-- all that a list of helpers needs
abbrev pub AreLittle : List Helper → Type 0
AreLittle [] = Unit {0}
AreLittle (h ∷ hs) = HasLittle h.need × AreLittle hs

summands_little :
    (hs : List Helper) (so_far p : Polynomial) → AreSums hs → AreOfCosts hs → IsCanonical so_far → IsPositive so_far → total_onto (assertions_of (members hs)) so_far ≡ Ok p → IsLittle p → AreLittle hs
summands_little [] so_far p s o c x h l = tt
summands_little (g ∷ hs) so_far p s o c x h l =
    let d = and_parts (is_of_costs g.need) (list_all (λ (h : Helper). is_of_costs h.need) hs) o in
    let k = single (poly.cost g.function) in
    let r = result_before (limited (sum so_far k)) (λ r. total_onto (assertion_and g.need (assertions_of (members hs))) r) p h in
    let is = limited_is (sum so_far k) r.0 r.1 in
    let k_canonical = (small_single (poly.cost g.function) tt).canonical in
    let rc = subst IsCanonical is (sum_canonical so_far k c k_canonical) in
    let rx = subst IsPositive is (second_less so_far k x tt).positive in
    let q = result_before (assertion_polynomial g.need) (λ q. bind (limited (sum r.0 q)) (λ r. total_onto (assertions_of (members hs)) r)) p r.2 in
    let t = result_before (limited (sum r.0 q.0)) (λ r. total_onto (assertions_of (members hs)) r) p q.2 in
    let again = limited_is (sum r.0 q.0) t.0 t.1 in
    let y = positive_costs g.need q.0 s.0 q.1 in
    let z = canonical_costs g.need q.0 d.0 q.1 in
    let tc = subst IsCanonical again (sum_canonical r.0 q.0 rc z) in
    let second = subst (λ (v : Polynomial). IsMore v q.0) again (second_less r.0 q.0 rx y) in
    let whole = grown (assertions_of (members hs)) t.0 p (members_are_sums hs s.1) (members_of_costs hs d.1) tc second.positive t.2 in
    let a = second.few in
    let b = second.light in
    let f = whole.few in
    let w = whole.light in
    let more : IsMore p q.0 = record { few = omega (arith, a, f); light = omega (arith, b, w); low = λ e l. second.low e (whole.low e l); positive = whole.positive } in
    (record { polynomial = q.0; is = q.1; little = less_is_little p q.0 z more l }, summands_little hs t.0 p s.1 d.1 tc second.positive t.2 l)
  where
    members_are_sums : (hs : List Helper) → AreSums hs → are_sums (assertions_of (members hs)) ≡ true
    members_are_sums [] s = refl
    members_are_sums (g ∷ hs) s = ap (λ (b : Bool). b && are_sums (assertions_of (members hs))) s.0 ∙ members_are_sums hs s.1

pub helpers_little : (hs : List Helper) → AreSums hs → AreOfCosts hs → HasLittle (helpers_need hs) → AreLittle hs
helpers_little hs s o l = summands_little hs nothing l.polynomial s o tt tt l.is l.little
