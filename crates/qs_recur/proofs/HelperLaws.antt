-- A call of another function is paid from what others take: the rest of the sum is at least 0.
use Rattle.std.proofs.Common.{◌≡◌, ◌+◌, ◌^◌, ◌==◌, ℕ, zero, suc, refl, sym, ap, ◌∙◌, subst, arith, Bool, true, false, List, [], ◌∷◌, ◌++◌, length, Ok, None}
use Rattle.std.specs.Prelude.{ℤ, pos, ◌+ℤ◌, ◌-ℤ◌, ◌&&◌, if◌then◌else◌}
use Rattle.std.specs.List.{list_all}
use Rattle.std.proofs.lemmas.Bool.{eqb-true, eq-eqb, and_parts}
use Rattle.std.proofs.lemmas.Int.{ints}
use Rattle.qs_base.specs.Results.{bind}
use Rattle.qs_assert.specs.declared.define.Define.{Define}
use Rattle.qs_assert.specs.Trees.{TermTree, AssertionTree, natural, infinity, cost, num, total, greatest, product, guard, choose, named, AssertionTrees, no_assertions, assertion_and, assertions_of}
use Rattle.qs_poly.specs.Canonical.{IsCanonical}
use Rattle.qs_poly.specs.Operations.{sum, multiple, number, lessened, single}
use Rattle.qs_poly.specs.Operations as operation
use Rattle.qs_poly.specs.Polynomials as poly
use Rattle.qs_poly.specs.Polynomials.{Polynomial, nothing}
use Rattle.qs_poly.specs.Terms.{polynomial_eq}
use Rattle.qs_poly.proofs.Coefficients.{sum_canonical, lessened_canonical}
use Rattle.qs_recur.proofs.Readings.{reading, sum_reading, difference_reading, once_reading, product_reading, read_alike, found_equal}
use Rattle.qs_recur.proofs.Smallness.{Small, small_more, small_sum, small_number, small_single}
use Rattle.qs_entail.specs.Building.{limited, difference, term_polynomial, is_plain, all_plain, assertion_polynomial, total_onto, at}
use Rattle.qs_entail.specs.Certificates.{once, cost_range, num_bounds, same, parts, arithmetic, fact, cert_and}
use Rattle.qs_entail.specs.Faults.{count, count_certs}
use Rattle.qs_entail.specs.Pushing.{Known, with_polynomials}
use Rattle.qs_entail.specs.Verdicts.{are_counted, fault, faults_parts}
use Rattle.qs_recur.proofs.StepLaws.{bound, fault_same, fault_via, fault_sum, fault_parts, fault_fact, fault_arithmetic, one_more_summand}
use Rattle.qs_recur.proofs.SmallFacts.{no_limit, IsOne, one_number, one_is_two, one_single, two_is_known, two_difference, difference_is, once_gives, twice_gives, one_combined}
use Rattle.qs_recur.specs.Certificates.{item, pair}
use Rattle.qs_recur.specs.Needs.{costs, Helper, cost_and, members, helpers_need, with_helpers}
use Rattle.qs_recur.specs.Written.{both_parts, not_negative, none_negative, zeros, costs_not_negative, only_members, member_certificates, helper_paid}
use Rattle.qs_recur.specs.Sizes.{is_of_costs}
use Rattle.qs_recur.proofs.CostsLaws.{AreOfCosts}
use Rattle.qs_recur.proofs.Identities.{once_of, term_of, term_reads}
use Rattle.qs_recur.proofs.SubtractionLaws.{costs_polynomial, small_term, holds}
use Rattle.qs_recur.proofs.SumLaws.{HasLittle, plain_costs}

less_zero : (z : ℤ) → z -ℤ pos 0 ≡ z
less_zero z = omega (arith, ints)

and_zero : (z : ℤ) → z +ℤ pos 0 ≡ z
and_zero z = omega (arith, ints)

less_itself : (z : ℤ) → z -ℤ z ≡ pos 0
less_itself z = omega (arith, ints)

-- ---- sums of costs alone

abbrev mutual
  pub is_sum : AssertionTree → Bool
  is_sum (natural n) = n == 0
  is_sum infinity = false
  is_sum (cost f) = true
  is_sum (num t) = false
  is_sum (total summands) = are_sums summands
  is_sum (greatest members) = false
  is_sum (product factors) = false
  is_sum (guard c a) = false
  is_sum (choose c a b) = false
  is_sum (named n) = false

  pub are_sums : AssertionTrees → Bool
  are_sums no_assertions = true
  are_sums (assertion_and a others) = is_sum a && are_sums others

abbrev pub AreSums : List Helper → Type 0
AreSums [] = Unit {0}
AreSums (h ∷ hs) = (is_sum h.need ≡ true) × AreSums hs

-- ---- what is known, and what is pushed behind it

pub record HasEnd (known : ℕ) (l : List Polynomial) : Type 0 where
  pub first : at l (pos 0) ≡ number (pos 1)
  pub first_counted : are_counted (once 0 (pos 0) ∷ []) (length l) ≡ true
  pub one_there : (x : Polynomial) → at (l ++ x ∷ []) (pos known) ≡ x
  pub one_counted : (x : Polynomial) → are_counted (item known ∷ []) (length (l ++ x ∷ [])) ≡ true
  pub number_there : (x y z : Polynomial) → at ((l ++ x ∷ y ∷ []) ++ z ∷ []) (pos known) ≡ x
  pub cost_there : (x y z : Polynomial) → at ((l ++ x ∷ y ∷ []) ++ z ∷ []) (pos (known + 2)) ≡ z
  pub both_counted : (x y z : Polynomial) → are_counted (pair known (known + 2) ∷ []) (length ((l ++ x ∷ y ∷ []) ++ z ∷ [])) ≡ true

pub three_end : (a b : Polynomial) → HasEnd 3 (number (pos 1) ∷ a ∷ b ∷ [])
three_end a b = record {
  first = refl;
  first_counted = refl;
  one_there = λ x. refl;
  one_counted = λ x. refl;
  number_there = λ x y z. refl;
  cost_there = λ x y z. refl;
  both_counted = λ x y z. refl;
}

pub four_end : (a b c : Polynomial) → HasEnd 4 (number (pos 1) ∷ a ∷ b ∷ c ∷ [])
four_end a b c = record {
  first = refl;
  first_counted = refl;
  one_there = λ x. refl;
  one_counted = λ x. refl;
  number_there = λ x y z. refl;
  cost_there = λ x y z. refl;
  both_counted = λ x y z. refl;
}

-- ---- zeros

zeros_plain : (summands : AssertionTrees) → all_plain (zeros summands) ≡ true
zeros_plain no_assertions = refl
zeros_plain (assertion_and a others) = zeros_plain others

zeros_are_nothing : (summands : AssertionTrees) → total_onto (zeros summands) nothing ≡ Ok nothing
zeros_are_nothing no_assertions = refl
zeros_are_nothing (assertion_and a others) = zeros_are_nothing others

as_many_zeros : (summands : AssertionTrees) → count (zeros summands) ≡ count summands
as_many_zeros no_assertions = refl
as_many_zeros (assertion_and a others) = ap suc (as_many_zeros others)

as_many_certificates : (known : ℕ) (summands : AssertionTrees) → count_certs (none_negative known summands) ≡ count summands
as_many_certificates known no_assertions = refl
as_many_certificates known (assertion_and a others) = ap suc (as_many_certificates known others)

module _ (known : ℕ) (k : Known) (end : HasEnd known k.polynomials) (ds : List Define) where
  zero_sum : (summands : AssertionTrees) → fault (arithmetic []) ds k (total (zeros summands)) (natural 0) ≡ None
  zero_sum summands =
      fault_arithmetic [] ds k (total (zeros summands)) (natural 0) (ap (λ (b : Bool). (b && true) && true) (zeros_plain summands))
      (holds [] k (total (zeros summands)) (natural 0) nothing nothing nothing (zeros_are_nothing summands) refl refl refl refl)

  zero_holds : fault (arithmetic (once 0 (pos 0) ∷ [])) ds k (natural 0) (natural 0) ≡ None
  zero_holds =
      let i = once_gives k.polynomials 0 0 1 (number (pos 1)) end.first (omega arith) (small_more 1 1 0 4 1 1 (number (pos 1)) (omega arith) (omega arith) (omega arith) (small_number (pos 1))) in
      fault_arithmetic (once 0 (pos 0) ∷ []) ds k (natural 0) (natural 0) end.first_counted
      (holds (once 0 (pos 0) ∷ []) k (natural 0) (natural 0) nothing nothing nothing refl refl (one_combined k.polynomials (once 0 (pos 0)) nothing i) refl refl)

  cost_holds : (f : ℕ) → fault (not_negative known (cost f)) ds k (cost f) (natural 0) ≡ None
  cost_holds f =
      let c = single (poly.cost f) in
      let c_one = one_single (poly.cost f) tt in
      let zero = number (pos 0) in
      let behind = with_polynomials (c ∷ []) k in
      let i = once_gives behind.polynomials 1 known (2 ^ 34) c (end.one_there c) (omega arith) (two_is_known c (one_is_two c c_one)) in
      let less = two_difference c zero c_one (one_number 0 (omega arith)) in
      fault_fact (cost_range f) (arithmetic (item known ∷ [])) ds k (cost f) (natural 0) (c ∷ []) refl refl
      (fault_arithmetic (item known ∷ []) ds behind (cost f) (natural 0) (end.one_counted c)
      (holds (item known ∷ []) behind (cost f) (natural 0) c zero (once_of c) refl refl (one_combined behind.polynomials (item known) (once_of c) i) (difference_is c zero (one_is_two c c_one) (one_is_two zero (one_number 0 (omega arith))))
      (found_equal (once_of c) (lessened c 1 zero 0) i.1.canonical less.canonical (λ g. once_reading g c ∙ sym (difference_reading g c zero ∙ less_zero (reading g c))))))

  mutual
    pub sum_holds : (a : AssertionTree) → is_sum a ≡ true → fault (not_negative known a) ds k a (natural 0) ≡ None
    sum_holds (natural n) h = subst (λ (i : ℕ). fault (not_negative known (natural i)) ds k (natural i) (natural 0) ≡ None) (sym (eqb-true n 0 h)) zero_holds
    sum_holds infinity h = cc
    sum_holds (cost f) h = cost_holds f
    sum_holds (num t) h = cc
    sum_holds (total summands) h =
        fault_via (total (zeros summands)) (parts (none_negative known summands)) (arithmetic []) ds k (total summands) (natural 0)
        (fault_parts (none_negative known summands) ds k summands (zeros summands) (as_many_certificates known summands) (as_many_certificates known summands ∙ sym (as_many_zeros summands)) (sums_hold 0 summands h))
        (zero_sum summands)
    sum_holds (greatest members) h = cc
    sum_holds (product factors) h = cc
    sum_holds (guard c a) h = cc
    sum_holds (choose c a b) h = cc
    sum_holds (named n) h = cc

    sums_hold : (i : ℕ) (summands : AssertionTrees) → are_sums summands ≡ true → faults_parts (none_negative known summands) i ds k summands (zeros summands) ≡ None
    sums_hold i no_assertions h = refl
    sums_hold i (assertion_and a others) h =
        let b = and_parts (is_sum a) (are_sums others) h in
        one_more_summand i (not_negative known a) (none_negative known others) ds k a (natural 0) others (zeros others) (sum_holds a b.0) (sums_hold (suc i) others b.1)

  -- ---- the costs of calls of f itself

  own_holds : (f : ℕ) (t : TermTree) (p : Polynomial) → term_polynomial t ≡ Ok p → IsOne p → fault (costs_not_negative known t f) ds k (costs t f) (natural 0) ≡ None
  own_holds f t p has one =
      let m = poly.num p in
      let n = single m in
      let n_one = one_single m one.canonical in
      let c = single (poly.cost f) in
      let d = lessened n 1 p 0 in
      let zero = number (pos 0) in
      let w = pair known (known + 2) ∷ [] in
      let numbered = with_polynomials (n ∷ d ∷ []) k in
      let all = with_polynomials (c ∷ []) numbered in
      let a = term_of m (poly.cost f) in
      let i = twice_gives all.polynomials 1 known (known + 2) (2 ^ 34) (poly.cost f) n (end.number_there n d c) (end.cost_there n d c) (omega arith) (omega arith) tt (two_is_known n (one_is_two n n_one)) in
      let z = multiple (pos 1) (operation.product n c) in
      let small_a = small_term m (poly.cost f) (small_single m one.canonical) (small_single (poly.cost f) tt) in
      let less = lessened_canonical a 1 zero 0 small_a.canonical (small_number (pos 0)).canonical in
      let kept : lessened a 1 zero 0 ≡ a = read_alike (lessened a 1 zero 0) a less small_a.canonical (λ g. difference_reading g a zero ∙ less_zero (reading g a)) in
      fault_fact (num_bounds t) (fact (cost_range f) (arithmetic w)) ds k (costs t f) (natural 0) (n ∷ d ∷ []) refl
      (bound (term_polynomial t) p (λ p. bind (difference (single (poly.num p)) p) (λ a. Ok (single (poly.num p) ∷ a ∷ []))) (Ok (n ∷ d ∷ [])) has
      (bound (difference n p) d (λ a. Ok (n ∷ a ∷ [])) (Ok (n ∷ d ∷ [])) (difference_is n p (one_is_two n n_one) (one_is_two p one)) refl))
      (fault_fact (cost_range f) (arithmetic w) ds numbered (costs t f) (natural 0) (c ∷ []) refl refl
      (fault_arithmetic w ds all (costs t f) (natural 0) (end.both_counted n d c)
      (holds w all (costs t f) (natural 0) a zero z (costs_polynomial t f p has one) refl (one_combined all.polynomials (pair known (known + 2)) z i)
      (ap limited kept ∙ (no_limit 1 1 2 a (omega arith) (omega arith) (omega arith) small_a ∙ ap (λ (q : Polynomial). Ok q) (sym kept)))
      (found_equal z (lessened a 1 zero 0) i.1.canonical less
      (λ g. once_reading g (operation.product n c) ∙ product_reading g (poly.cost f) n ∙ sym (difference_reading g a zero ∙ less_zero (reading g a) ∙ term_reads g m (poly.cost f)))))))

  -- ---- the members

  members_hold : (g : ℕ) (hs : List Helper) (i : ℕ) → AreSums hs → faults_parts (member_certificates known g hs) i ds k (assertions_of (members hs)) (assertions_of (only_members g hs)) ≡ None
  members_hold g [] i h = refl
  members_hold g (m ∷ hs) i h = by (m.function == g) (members_hold g hs (suc (suc i)) h.1)
    where
      by :
          (b : Bool) → faults_parts (member_certificates known g hs) (suc (suc i)) ds k (assertions_of (members hs)) (assertions_of (only_members g hs)) ≡ None
          → faults_parts
          (if b then cert_and same (cert_and same (member_certificates known g hs)) else cert_and (not_negative known (cost m.function)) (cert_and (not_negative known m.need) (member_certificates known g hs)))
          i ds k (assertions_of (members (m ∷ hs))) (assertions_of (if b then cost_and m.function m.need (only_members g hs) else natural 0 ∷ natural 0 ∷ only_members g hs))
          ≡ None
      by true rest =
          one_more_summand i same (cert_and same (member_certificates known g hs)) ds k (cost m.function) (cost m.function) (assertions_of (m.need ∷ members hs)) (assertions_of (m.need ∷ only_members g hs)) (fault_same ds k (cost m.function))
          (one_more_summand (suc i) same (member_certificates known g hs) ds k m.need m.need (assertions_of (members hs)) (assertions_of (only_members g hs)) (fault_same ds k m.need) rest)
      by false rest =
          one_more_summand i (not_negative known (cost m.function)) (cert_and (not_negative known m.need) (member_certificates known g hs)) ds k (cost m.function) (natural 0) (assertions_of (m.need ∷ members hs)) (assertions_of (natural 0 ∷ only_members g hs))
          (cost_holds m.function)
          (one_more_summand (suc i) (not_negative known m.need) (member_certificates known g hs) ds k m.need (natural 0) (assertions_of (members hs)) (assertions_of (only_members g hs)) (sum_holds m.need h.0) rest)

  members_counted : (g : ℕ) (hs : List Helper) → (count_certs (member_certificates known g hs) ≡ count (assertions_of (members hs))) × (count_certs (member_certificates known g hs) ≡ count (assertions_of (only_members g hs)))
  members_counted g [] = (refl, refl)
  members_counted g (m ∷ hs) = let p = members_counted g hs in by (m.function == g) p.0 p.1
    where
      by :
          (b : Bool) → count_certs (member_certificates known g hs) ≡ count (assertions_of (members hs)) → count_certs (member_certificates known g hs) ≡ count (assertions_of (only_members g hs))
          → (count_certs (if b then cert_and same (cert_and same (member_certificates known g hs)) else cert_and (not_negative known (cost m.function)) (cert_and (not_negative known m.need) (member_certificates known g hs))) ≡ count (assertions_of (members (m ∷ hs))))
          × (count_certs (if b then cert_and same (cert_and same (member_certificates known g hs)) else cert_and (not_negative known (cost m.function)) (cert_and (not_negative known m.need) (member_certificates known g hs)))
          ≡ count (assertions_of (if b then cost_and m.function m.need (only_members g hs) else natural 0 ∷ natural 0 ∷ only_members g hs)))
      by true x y = (ap (λ (n : ℕ). suc (suc n)) x, ap (λ (n : ℕ). suc (suc n)) y)
      by false x y = (ap (λ (n : ℕ). suc (suc n)) x, ap (λ (n : ℕ). suc (suc n)) y)

-- ---- what is left of the members

abbrev pub NoneOf : (g : ℕ) → List Helper → Type 0
NoneOf g [] = Unit {0}
NoneOf g (m ∷ hs) = ((m.function == g) ≡ false) × NoneOf g hs

-- g is one of them, once, and needs this
pub data IsOneOf (g : ℕ) (need : AssertionTree) : List Helper → Type 0 where
  is_first : {m : Helper} {hs : List Helper} → m.function ≡ g → m.need ≡ need → NoneOf g hs → IsOneOf g need (m ∷ hs)
  is_later : {m : Helper} {hs : List Helper} → (m.function == g) ≡ false → IsOneOf g need hs → IsOneOf g need (m ∷ hs)

with_nothing : (p : Polynomial) → IsCanonical p → sum p nothing ≡ p
with_nothing p x = read_alike (sum p nothing) p (sum_canonical p nothing x tt) x (λ g. sum_reading g p nothing ∙ and_zero (reading g p))

zero_step : (p : Polynomial) (others : AssertionTrees) → IsCanonical p → limited p ≡ Ok p → total_onto (assertion_and (natural 0) others) p ≡ total_onto others p
zero_step p others x h = ap (λ (q : Polynomial). bind (limited q) (λ r. total_onto others r)) (with_nothing p x) ∙ ap (λ r. bind r (λ r. total_onto others r)) h

none_left : (g : ℕ) (hs : List Helper) → NoneOf g hs → (p : Polynomial) → IsCanonical p → limited p ≡ Ok p → total_onto (assertions_of (only_members g hs)) p ≡ Ok p
none_left g [] none p x h = refl
none_left g (m ∷ hs) none p x h =
    ap (λ (b : Bool). total_onto (assertions_of (if b then cost_and m.function m.need (only_members g hs) else natural 0 ∷ natural 0 ∷ only_members g hs)) p) none.0
    ∙ zero_step p (assertions_of (natural 0 ∷ only_members g hs)) x h ∙ zero_step p (assertions_of (only_members g hs)) x h ∙ none_left g hs none.1 p x h

only_plain : (g : ℕ) (hs : List Helper) → AreOfCosts hs → all_plain (assertions_of (only_members g hs)) ≡ true
only_plain g [] closed = refl
only_plain g (m ∷ hs) closed =
    let p = and_parts (is_of_costs m.need) (list_all (λ (h : Helper). is_of_costs h.need) hs) closed in
    by (m.function == g) (plain_costs m.need p.0) (only_plain g hs p.1)
  where
    by :
        (b : Bool) → is_plain m.need ≡ true → all_plain (assertions_of (only_members g hs)) ≡ true
        → all_plain (assertions_of (if b then cost_and m.function m.need (only_members g hs) else natural 0 ∷ natural 0 ∷ only_members g hs)) ≡ true
    by true n rest = ap (λ (b : Bool). b && all_plain (assertions_of (only_members g hs))) n ∙ rest
    by false n rest = rest

module _ (g : ℕ) (need : AssertionTree) (closed : is_of_costs need ≡ true) (little : HasLittle need) where
  abbrev c : Polynomial
  c = single (poly.cost g)

  abbrev q : Polynomial
  q = little.polynomial

  abbrev z : Polynomial
  z = sum c q

  c_is_small : Small 1 1 2 c
  c_is_small = small_more 1 1 1 1 1 2 c (omega arith) (omega arith) (omega arith) (small_single (poly.cost g) tt)

  z_small : Small 33 (1 + 2 ^ 45) 2 z
  z_small = small_sum 1 1 32 (2 ^ 45) 2 c q c_is_small little.little

  z_limited : limited z ≡ Ok z
  z_limited = no_limit 33 (1 + 2 ^ 45) 2 z (omega arith) (omega arith) (omega arith) z_small

  -- the cost and the need, before others
  both_first : (others : AssertionTrees) → total_onto (assertion_and (cost g) (assertion_and need others)) nothing ≡ total_onto others z
  both_first others =
      bound (limited c) c (λ r. total_onto (assertion_and need others) r) (total_onto others z) (no_limit 1 1 2 c (omega arith) (omega arith) (omega arith) c_is_small)
      (bound (assertion_polynomial need) q (λ q. bind (limited (sum c q)) (λ r. total_onto others r)) (total_onto others z) little.is
      (bound (limited z) z (λ r. total_onto others r) (total_onto others z) z_limited refl))

  once_left : (hs : List Helper) → IsOneOf g need hs → total_onto (assertions_of (only_members g hs)) nothing ≡ Ok z
  once_left [] one = elim one [ ]
  once_left (m ∷ hs) (is_first e n none) =
      ap (λ (b : Bool). total_onto (assertions_of (if b then cost_and m.function m.need (only_members g hs) else natural 0 ∷ natural 0 ∷ only_members g hs)) nothing) (eq-eqb m.function g e)
      ∙ ap (λ (f : ℕ). total_onto (assertions_of (cost_and f m.need (only_members g hs))) nothing) e
      ∙ ap (λ (a : AssertionTree). total_onto (assertions_of (cost_and g a (only_members g hs))) nothing) n
      ∙ both_first (assertions_of (only_members g hs)) ∙ none_left g hs none z z_small.canonical z_limited
  once_left (m ∷ hs) (is_later e later) =
      ap (λ (b : Bool). total_onto (assertions_of (if b then cost_and m.function m.need (only_members g hs) else natural 0 ∷ natural 0 ∷ only_members g hs)) nothing) e ∙ once_left hs later

  only_is : (hs : List Helper) → IsOneOf g need hs → assertion_polynomial (total (assertions_of (total (assertions_of (only_members g hs)) ∷ natural 0 ∷ []))) ≡ Ok z
  only_is hs one =
      bound (total_onto (assertions_of (only_members g hs)) nothing) z (λ q. bind (limited (sum nothing q)) (λ r. total_onto (assertions_of (natural 0 ∷ [])) r)) (Ok z) (once_left hs one)
      (bound (limited z) z (λ r. total_onto (assertions_of (natural 0 ∷ [])) r) (Ok z) z_limited (zero_step z no_assertions z_small.canonical z_limited))

  needed_is : assertion_polynomial (total (assertions_of (cost g ∷ need ∷ []))) ≡ Ok z
  needed_is = both_first no_assertions

  nothing_left : lessened z 1 z 0 ≡ nothing
  nothing_left = read_alike (lessened z 1 z 0) nothing (lessened_canonical z 1 z 0 z_small.canonical z_small.canonical) tt (λ g. difference_reading g z z ∙ less_itself (reading g z))

  only_holds : (ds : List Define) (k : Known) (hs : List Helper) → AreOfCosts hs → IsOneOf g need hs
      → fault (arithmetic []) ds k (total (assertions_of (total (assertions_of (only_members g hs)) ∷ natural 0 ∷ []))) (total (assertions_of (cost g ∷ need ∷ []))) ≡ None
  only_holds ds k hs all_closed one =
      let left = total (assertions_of (total (assertions_of (only_members g hs)) ∷ natural 0 ∷ [])) in
      let right = total (assertions_of (cost g ∷ need ∷ [])) in
      fault_arithmetic [] ds k left right
      (ap (λ (b : Bool). ((b && true) && (true && (is_plain need && true))) && true) (only_plain g hs all_closed) ∙ ap (λ (b : Bool). (true && (true && (b && true))) && true) (plain_costs need closed))
      (holds [] k left right z z nothing (only_is hs one) needed_is refl (ap limited nothing_left ∙ ap (λ (p : Polynomial). Ok p) (sym nothing_left)) (ap (λ (p : Polynomial). polynomial_eq nothing p) nothing_left))

  -- there is enough for a call of g
  pub helper_paid_holds :
      (known : ℕ) (k : Known) (end : HasEnd known k.polynomials) (ds : List Define) (f : ℕ) (t : TermTree) (p : Polynomial) → term_polynomial t ≡ Ok p → IsOne p
      → (hs : List Helper) → AreOfCosts hs → AreSums hs → IsOneOf g need hs → fault (helper_paid known t f g hs) ds k (with_helpers hs (costs t f)) (total (assertions_of (cost g ∷ need ∷ []))) ≡ None
  helper_paid_holds known k end ds f t p has one [] all_closed sums is = elim is [ ]
  helper_paid_holds known k end ds f t p has one (m ∷ hs) all_closed sums is =
      let all = m ∷ hs in
      let certificates = parts (member_certificates known g all) in
      let left = total (assertions_of (total (assertions_of (only_members g all)) ∷ natural 0 ∷ [])) in
      let counted = members_counted known k end ds g all in
      fault_via left (both_parts certificates (costs_not_negative known t f)) (arithmetic []) ds k (with_helpers all (costs t f)) (total (assertions_of (cost g ∷ need ∷ [])))
      (fault_sum certificates (costs_not_negative known t f) ds k (helpers_need all) (costs t f) (total (assertions_of (only_members g all))) (natural 0)
      (fault_parts (member_certificates known g all) ds k (assertions_of (members all)) (assertions_of (only_members g all)) counted.0 counted.1 (members_hold known k end ds g all 0 sums))
      (own_holds known k end ds f t p has one))
      (only_holds ds k all all_closed is)
