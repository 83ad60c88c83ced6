-- Sums with what other functions take: their polynomials are small, and the certificates of sums hold.
use Rattle.std.proofs.Common.{◌≡◌, ◌≤◌, ◌+◌, ◌*◌, ◌^◌, ℕ, refl, sym, ap, ◌∙◌, subst, arith, Bool, true, false, List, [], ◌∷◌, Result, Ok, Err, None}
use Rattle.std.specs.Prelude.{ℤ, pos, ◌+ℤ◌, ◌-ℤ◌, ◌&&◌, nat_le, unsigned_abs}
use Rattle.std.proofs.lemmas.Bool.{and_parts}
use Rattle.std.proofs.lemmas.Bool.Decides.{nat_tests}
use Rattle.std.proofs.lemmas.Int.{ints}
use Rattle.qs_base.specs.Results.{bind, require}
use Rattle.qs_assert.specs.declared.define.Define.{Define}
use Rattle.qs_assert.specs.Trees.{TermTree, AssertionTree, natural, infinity, cost, num, total, greatest, product, guard, choose, named, AssertionTrees, no_assertions, assertion_and, assertions_of}
use Rattle.qs_poly.specs.Canonical.{IsCanonical}
use Rattle.qs_poly.specs.Limits.{all_narrow, has_few_terms, all_low, count_terms, degree}
use Rattle.qs_poly.specs.declared.fault.PolyFault.TheVariants.{Wide, ManyTerms, HighDegree}
use Rattle.qs_poly.specs.Operations.{sum, number, lessened, single}
use Rattle.qs_poly.specs.Operations as operation
use Rattle.qs_poly.specs.Polynomials as poly
use Rattle.qs_poly.specs.Polynomials.{Polynomial, nothing, plus}
use Rattle.qs_poly.specs.Terms.{polynomial_eq}
use Rattle.qs_poly.proofs.Coefficients.{sum_canonical, product_canonical, number_canonical, lessened_canonical}
use Rattle.qs_recur.proofs.Readings.{reading, sum_reading, difference_reading, read_alike}
use Rattle.qs_recur.proofs.Smallness.{Small, IsLow, weight, small_more, small_sum, small_single}
use Rattle.qs_entail.specs.Building.{Stop, limits, limited, term_polynomial, is_plain, all_plain, assertion_polynomial, total_onto, factors_onto}
use Rattle.qs_entail.specs.Certificates.{CertTree, same, parts, arithmetic}
use Rattle.qs_entail.specs.Pushing.{Known}
use Rattle.qs_entail.specs.Verdicts.{fault}
use Rattle.qs_recur.proofs.StepLaws.{bound, fault_same, fault_via, fault_sum, fault_arithmetic}
use Rattle.qs_recur.proofs.SmallFacts.{no_limit, IsOne}
use Rattle.qs_recur.specs.Needs.{costs, Helper, members, helpers_need, with_helpers}
use Rattle.qs_recur.specs.Sizes.{is_of_costs, all_of_costs, terms_are_small, is_small_sum, costs_little}
use Rattle.qs_recur.specs.Written.{both_parts, own_paid}
use Rattle.qs_recur.proofs.Identities.{term_of}
use Rattle.qs_recur.proofs.SubtractionLaws.{costs_polynomial, more_polynomial, small_term, holds}

-- ---- polynomials of costs are canonical

-- what passes no limit is what it was
pub limited_is : (p q : Polynomial) → limited p ≡ Ok q → p ≡ q
limited_is p q h = by (all_narrow p) (has_few_terms p) (all_low p) h
  where
    by : (a b c : Bool) → limits (require a Wide (require b ManyTerms (require c HighDegree (Ok p)))) ≡ Ok q → p ≡ q
    by true true true h = cc
    by true true false h = cc
    by true false c h = cc
    by false b c h = cc

-- a step that gives something has something before it
pub result_before : {A B : Type 0} (r : Result A Stop) (next : A → Result B Stop) (b : B) → bind r next ≡ Ok b → (a : A) × (r ≡ Ok a) × (next a ≡ Ok b)
result_before (Ok a) next b h = (a, refl, h)
result_before (Err stop) next b h = cc

pub one_ok : (p q : Polynomial) → (the : Result Polynomial Stop) → the ≡ Ok p → the ≡ Ok q → p ≡ q
one_ok p q the h e = cc

mutual
  pub canonical_costs : (a : AssertionTree) (p : Polynomial) → is_of_costs a ≡ true → assertion_polynomial a ≡ Ok p → IsCanonical p
  canonical_costs (natural n) p c h = subst IsCanonical (limited_is (number (pos n)) p h) (number_canonical (pos n))
  canonical_costs infinity p c h = cc
  canonical_costs (cost f) p c h = subst IsCanonical (one_ok (single (poly.cost f)) p (Ok (single (poly.cost f))) refl h) (small_single (poly.cost f) tt).canonical
  canonical_costs (num t) p c h = cc
  canonical_costs (total summands) p c h = canonical_sum summands nothing p c tt h
  canonical_costs (greatest members) p c h = cc
  canonical_costs (product factors) p c h = canonical_product factors (number (pos 1)) p c (number_canonical (pos 1)) h
  canonical_costs (guard d a) p c h = cc
  canonical_costs (choose d a b) p c h = cc
  canonical_costs (named n) p c h = cc

  canonical_sum : (summands : AssertionTrees) (so_far p : Polynomial) → all_of_costs summands ≡ true → IsCanonical so_far → total_onto summands so_far ≡ Ok p → IsCanonical p
  canonical_sum no_assertions so_far p c x h = subst IsCanonical (one_ok so_far p (Ok so_far) refl h) x
  canonical_sum (assertion_and a others) so_far p c x h =
      let b = and_parts (is_of_costs a) (all_of_costs others) c in
      let q = result_before (assertion_polynomial a) (λ q. bind (limited (sum so_far q)) (λ r. total_onto others r)) p h in
      let r = result_before (limited (sum so_far q.0)) (λ r. total_onto others r) p q.2 in
      canonical_sum others r.0 p b.1 (subst IsCanonical (limited_is (sum so_far q.0) r.0 r.1) (sum_canonical so_far q.0 x (canonical_costs a q.0 b.0 q.1))) r.2

  canonical_product : (factors : AssertionTrees) (so_far p : Polynomial) → all_of_costs factors ≡ true → IsCanonical so_far → factors_onto factors so_far ≡ Ok p → IsCanonical p
  canonical_product no_assertions so_far p c x h = subst IsCanonical (one_ok so_far p (Ok so_far) refl h) x
  canonical_product (assertion_and a others) so_far p c x h =
      let b = and_parts (is_of_costs a) (all_of_costs others) c in
      let q = result_before (assertion_polynomial a) (λ q. bind (limited (operation.product so_far q)) (λ r. factors_onto others r)) p h in
      let r = result_before (limited (operation.product so_far q.0)) (λ r. factors_onto others r) p q.2 in
      canonical_product others r.0 p b.1 (subst IsCanonical (limited_is (operation.product so_far q.0) r.0 r.1) (product_canonical so_far q.0 x (canonical_costs a q.0 b.0 q.1))) r.2

-- ---- and small

terms_weigh : (p : Polynomial) → terms_are_small p ≡ true → (weight p ≤ count_terms p * 2 ^ 40) × IsLow 2 p
terms_weigh nothing h = (omega arith, tt)
terms_weigh (plus c m p) h =
    let a = and_parts (nat_le (unsigned_abs c) (2 ^ 40) && nat_le (degree m) 2) (terms_are_small p) h in
    let b = and_parts (nat_le (unsigned_abs c) (2 ^ 40)) (nat_le (degree m) 2) a.0 in
    let light : unsigned_abs c ≤ 2 ^ 40 = let n = b.0 in grind (arith, nat_tests, n) in
    let low : degree m ≤ 2 = let n = b.1 in grind (arith, nat_tests, n) in
    let rest = terms_weigh p a.1 in
    let weighs = rest.0 in
    (omega (arith, light, weighs), (low, rest.1))

abbrev pub IsLittle : Polynomial → Type 0
IsLittle p = Small 32 (2 ^ 45) 2 p

pub record HasLittle (a : AssertionTree) : Type 0 where
  pub polynomial : Polynomial
  pub is : assertion_polynomial a ≡ Ok polynomial
  pub little : IsLittle polynomial

pub little_of : (a : AssertionTree) → is_of_costs a ≡ true → costs_little a ≡ true → HasLittle a
little_of a c h = by (assertion_polynomial a) refl h
  where
    by : (r : Result Polynomial Stop) → assertion_polynomial a ≡ r → is_small_sum r ≡ true → HasLittle a
    by (Err stop) e h = cc
    by (Ok p) e h =
        let b = and_parts (nat_le (count_terms p) 32) (terms_are_small p) h in
        let few : count_terms p ≤ 32 = let n = b.0 in grind (arith, nat_tests, n) in
        let w = terms_weigh p b.1 in
        let weighs = w.0 in
        record { polynomial = p; is = e; little = record { canonical = canonical_costs a p c e; few = few; light = omega (arith, few, weighs); low = w.1 } }

-- they are plain
mutual
  pub plain_costs : (a : AssertionTree) → is_of_costs a ≡ true → is_plain a ≡ true
  plain_costs (natural n) c = refl
  plain_costs infinity c = cc
  plain_costs (cost f) c = refl
  plain_costs (num t) c = refl
  plain_costs (total summands) c = all_plain_costs summands c
  plain_costs (greatest members) c = cc
  plain_costs (product factors) c = all_plain_costs factors c
  plain_costs (guard d a) c = cc
  plain_costs (choose d a b) c = cc
  plain_costs (named n) c = cc

  all_plain_costs : (parts : AssertionTrees) → all_of_costs parts ≡ true → all_plain parts ≡ true
  all_plain_costs no_assertions c = refl
  all_plain_costs (assertion_and a others) c =
      let b = and_parts (is_of_costs a) (all_of_costs others) c in
      ap (λ (x : Bool). x && all_plain others) (plain_costs a b.0) ∙ all_plain_costs others b.1

-- ---- a sum in another order of its parts

regrouped : (s c n a b x y d : ℤ) → x ≡ s +ℤ y → y ≡ c +ℤ n → a ≡ x → b ≡ c +ℤ d → d ≡ s +ℤ n → a -ℤ b ≡ pos 0
regrouped s c n a b x y d h i j k l = omega (arith, ints, h, i, j, k, l)

module _ (f : ℕ) (a : AssertionTree) (closed : is_of_costs a ≡ true) (l : HasLittle a) (t : TermTree) (p : Polynomial) (has : term_polynomial t ≡ Ok p) (one : IsOne p) where
  abbrev s : Polynomial
  s = l.polynomial

  abbrev c : Polynomial
  c = single (poly.cost f)

  abbrev n : Polynomial
  n = term_of (poly.num p) (poly.cost f)

  c_small : Small 1 1 2 c
  c_small = small_more 1 1 1 1 1 2 c (omega arith) (omega arith) (omega arith) (small_single (poly.cost f) tt)

  n_small : Small 1 1 2 n
  n_small = small_term (poly.num p) (poly.cost f) (small_single (poly.num p) one.canonical) (small_single (poly.cost f) tt)

  s_n_small : Small 33 (2 ^ 45 + 1) 2 (sum s n)
  s_n_small = small_sum 32 (2 ^ 45) 1 1 2 s n l.little n_small

  c_n_small : Small 2 2 2 (sum c n)
  c_n_small = small_sum 1 1 1 1 2 c n c_small n_small

  left_small : Small 34 (2 ^ 45 + 2) 2 (sum s (sum c n))
  left_small = small_sum 32 (2 ^ 45) 2 2 2 s (sum c n) l.little c_n_small

  right_small : Small 34 (1 + (2 ^ 45 + 1)) 2 (sum c (sum s n))
  right_small = small_sum 1 1 33 (2 ^ 45 + 1) 2 c (sum s n) c_small s_n_small

  abbrev own : AssertionTree
  own = costs t f

  -- the sum s, and one cost more with its own
  left_is : assertion_polynomial (total (assertions_of (a ∷ total (assertions_of (cost f ∷ own ∷ [])) ∷ []))) ≡ Ok (sum s (sum c n))
  left_is =
      let last = total (assertions_of (cost f ∷ own ∷ [])) in
      bound (assertion_polynomial a) s (λ q. bind (limited (sum nothing q)) (λ r. total_onto (assertions_of (last ∷ [])) r)) (Ok (sum s (sum c n))) l.is
      (bound (limited s) s (λ r. total_onto (assertions_of (last ∷ [])) r) (Ok (sum s (sum c n))) (no_limit 32 (2 ^ 45) 2 s (omega arith) (omega arith) (omega arith) l.little)
      (bound (assertion_polynomial last) (sum c n) (λ q. bind (limited (sum s q)) (λ r. Ok r)) (Ok (sum s (sum c n))) (more_polynomial t f p has one)
      (bound (limited (sum s (sum c n))) (sum s (sum c n)) (λ r. Ok r) (Ok (sum s (sum c n))) (no_limit 34 (2 ^ 45 + 2) 2 (sum s (sum c n)) (omega arith) (omega arith) (omega arith) left_small) refl)))

  with_own : assertion_polynomial (total (assertions_of (a ∷ own ∷ []))) ≡ Ok (sum s n)
  with_own =
      bound (assertion_polynomial a) s (λ q. bind (limited (sum nothing q)) (λ r. total_onto (assertions_of (own ∷ [])) r)) (Ok (sum s n)) l.is
      (bound (limited s) s (λ r. total_onto (assertions_of (own ∷ [])) r) (Ok (sum s n)) (no_limit 32 (2 ^ 45) 2 s (omega arith) (omega arith) (omega arith) l.little)
      (bound (assertion_polynomial own) n (λ q. bind (limited (sum s q)) (λ r. Ok r)) (Ok (sum s n)) (costs_polynomial t f p has one)
      (bound (limited (sum s n)) (sum s n) (λ r. Ok r) (Ok (sum s n)) (no_limit 33 (2 ^ 45 + 1) 2 (sum s n) (omega arith) (omega arith) (omega arith) s_n_small) refl)))

  right_is : assertion_polynomial (total (assertions_of (cost f ∷ total (assertions_of (a ∷ own ∷ [])) ∷ []))) ≡ Ok (sum c (sum s n))
  right_is =
      let last = total (assertions_of (a ∷ own ∷ [])) in
      bound (limited c) c (λ r. total_onto (assertions_of (last ∷ [])) r) (Ok (sum c (sum s n))) (no_limit 1 1 2 c (omega arith) (omega arith) (omega arith) c_small)
      (bound (assertion_polynomial last) (sum s n) (λ q. bind (limited (sum c q)) (λ r. Ok r)) (Ok (sum c (sum s n))) with_own
      (bound (limited (sum c (sum s n))) (sum c (sum s n)) (λ r. Ok r) (Ok (sum c (sum s n))) (no_limit 34 (1 + (2 ^ 45 + 1)) 2 (sum c (sum s n)) (omega arith) (omega arith) (omega arith) right_small) refl))

  nothing_between : lessened (sum s (sum c n)) 1 (sum c (sum s n)) 0 ≡ nothing
  nothing_between =
      read_alike (lessened (sum s (sum c n)) 1 (sum c (sum s n)) 0) nothing (lessened_canonical (sum s (sum c n)) 1 (sum c (sum s n)) 0 left_small.canonical right_small.canonical) tt
      (λ g.
      difference_reading g (sum s (sum c n)) (sum c (sum s n))
      ∙ regrouped (reading g s) (reading g c) (reading g n) (reading g (sum s (sum c n))) (reading g (sum c (sum s n))) (reading g (sum s (sum c n))) (reading g (sum c n)) (reading g (sum s n))
      (sum_reading g s (sum c n)) (sum_reading g c n) refl (sum_reading g c (sum s n)) (sum_reading g s n))

  regrouping_holds : (ds : List Define) (k : Known) → fault (arithmetic []) ds k (total (assertions_of (a ∷ total (assertions_of (cost f ∷ own ∷ [])) ∷ []))) (total (assertions_of (cost f ∷ total (assertions_of (a ∷ own ∷ [])) ∷ []))) ≡ None
  regrouping_holds ds k =
      let left = total (assertions_of (a ∷ total (assertions_of (cost f ∷ own ∷ [])) ∷ [])) in
      let right = total (assertions_of (cost f ∷ total (assertions_of (a ∷ own ∷ [])) ∷ [])) in
      let x = sum s (sum c n) in
      let y = sum c (sum s n) in
      fault_arithmetic [] ds k left right (ap (λ (b : Bool). ((b && true) && (true && ((b && true) && true))) && true) (plain_costs a closed))
      (holds [] k left right x y nothing left_is right_is refl (ap limited nothing_between ∙ ap (λ (p : Polynomial). Ok p) (sym nothing_between)) (ap (λ (p : Polynomial). polynomial_eq nothing p) nothing_between))

-- a call of the function itself, with what others take
pub own_paid_holds :
    (f : ℕ) (hs : List Helper) → all_of_costs (assertions_of (members hs)) ≡ true → (((g : Helper) (others : List Helper) → hs ≡ g ∷ others → HasLittle (helpers_need hs)))
    → (ds : List Define) (k : Known) (given : AssertionTree) (t : TermTree) (p : Polynomial) → term_polynomial t ≡ Ok p → IsOne p → (cert : CertTree) → fault cert ds k given (total (assertions_of (cost f ∷ costs t f ∷ []))) ≡ None
    → fault (own_paid t f hs cert) ds k (with_helpers hs given) (total (assertions_of (cost f ∷ with_helpers hs (costs t f) ∷ []))) ≡ None
own_paid_holds f [] closed little ds k given t p has one cert h = h
own_paid_holds f (g ∷ hs) closed little ds k given t p has one cert h =
    let a = helpers_need (g ∷ hs) in
    let middle = total (assertions_of (a ∷ total (assertions_of (cost f ∷ costs t f ∷ [])) ∷ [])) in
    fault_via middle (both_parts same cert) (arithmetic []) ds k (with_helpers (g ∷ hs) given) (total (assertions_of (cost f ∷ with_helpers (g ∷ hs) (costs t f) ∷ [])))
    (fault_sum same cert ds k a given a (total (assertions_of (cost f ∷ costs t f ∷ []))) (fault_same ds k a) h)
    (regrouping_holds f a closed (little g hs refl) t p has one ds k)
