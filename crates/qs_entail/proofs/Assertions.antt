-- Plain assertions are polynomials, and combinations of polynomials that are at least 0 are at least 0.
use Rattle.std.proofs.Common.{◌≡◌, ℕ, zero, suc, ◌+◌, ◌*◌, refl, sym, ap, ◌∙◌, arith, true}
use Rattle.std.specs.Prelude.{ℤ, pos, negsuc, ◌-ℤ◌, ◌*ℤ◌, ◌≤ℤ◌, List, [], ◌∷◌, All, slice_index_or, Result, Ok, Err}
use Rattle.std.proofs.lemmas.Int.{ints}
use Rattle.std.proofs.lemmas.Bool.{and_parts}
use Rattle.qs_assert.specs.Trees.{AssertionTree, natural, cost, num, total, product, AssertionTrees, no_assertions, assertion_and}
use Rattle.qs_assert.specs.Values.{State, natural_part, term_value, Extended, finite, value, sum_of, product_of, plus as with, times}
use Rattle.qs_poly.specs.Polynomials as poly
use Rattle.qs_poly.specs.Polynomials.{Polynomial, nothing}
use Rattle.qs_poly.specs.Operations.{sum, multiple, single}
use Rattle.qs_poly.specs.Operations as operation
use Rattle.qs_poly.specs.Values.{polynomial_value}
use Rattle.qs_poly.proofs.Ring.{mul_assoc, mul_not_negative}
use Rattle.qs_poly.proofs.ValueLaws.{number_value, single_value}
use Rattle.qs_entail.specs.Certificates.{Item, once, twice}
use Rattle.qs_base.specs.Results.{bind}
use Rattle.qs_entail.specs.Building.{Stop, limited, term_polynomial, is_plain, all_plain, assertion_polynomial, total_onto, factors_onto, at, item_polynomial, item_polynomials, sum_all, combination, two_combinations, Two}
use Rattle.qs_entail.proofs.BuildingLaws.{bind_ok, limited_value, limited_sum_value, limited_product_value, limited_multiple_value, term_polynomial_value}

-- an assertion whose value is the number that a polynomial has
pub record Counts (a : Extended) (z : ℤ) : Type 0 where
  pub n : ℕ
  pub is : a ≡ finite n
  pub value_is : z ≡ pos n

pub record Scales (a : Extended) (z r : ℤ) : Type 0 where
  pub n : ℕ
  pub is : a ≡ finite n
  pub value_is : r ≡ z *ℤ pos n

mutual
  pub assertion_polynomial_value : (a : AssertionTree) (p : Polynomial) (s : State) → is_plain a ≡ true → assertion_polynomial a ≡ Ok p → Counts (value a s) (polynomial_value p s)
  assertion_polynomial_value (natural n) p s a h = record { n = n; is = refl; value_is = limited_value (operation.number (pos n)) p s h ∙ number_value (pos n) s }
  assertion_polynomial_value (cost f) p s a h =
      let e : single (poly.cost f) ≡ p = cc in
      record { n = s.costs f; is = refl; value_is = sym (ap (λ x. polynomial_value x s) e) ∙ single_value (poly.cost f) s }
  assertion_polynomial_value (num t) p s a h =
      let b = bind_ok (term_polynomial t) (λ p. Ok (single (poly.num p))) p h in
      let e : single (poly.num b.0) ≡ p = let k = b.1.1 in cc in
      record {
        n = natural_part (term_value t s);
        is = refl;
        value_is = sym (ap (λ x. polynomial_value x s) e) ∙ single_value (poly.num b.0) s ∙ ap (λ z. pos (natural_part z)) (term_polynomial_value t b.0 s b.1.0);
      }
  assertion_polynomial_value (total parts) p s a h =
      let t = total_onto_value parts nothing p s a h in
      record { n = t.n; is = t.is; value_is = let e = t.value_is in omega (arith, ints, e) }
  assertion_polynomial_value (product parts) p s a h =
      let t = factors_onto_value parts (operation.number (pos 1)) p s a h in
      record { n = t.n; is = t.is; value_is = t.value_is ∙ ap (λ z. z *ℤ pos t.n) (number_value (pos 1) s) ∙ omega (arith, ints) }
  assertion_polynomial_value _ p s a h = cc

  pub total_onto_value : (parts : AssertionTrees) (p r : Polynomial) (s : State) → all_plain parts ≡ true → total_onto parts p ≡ Ok r → Counts (sum_of parts s) (polynomial_value r s -ℤ polynomial_value p s)
  total_onto_value no_assertions p r s a h =
      let e : p ≡ r = cc in
      record { n = 0; is = refl; value_is = let k = ap (λ x. polynomial_value x s) e in omega (arith, ints, k) }
  total_onto_value (assertion_and c parts) p r s a h =
      let ab = and_parts (is_plain c) (all_plain parts) a in
      let b = bind_ok (assertion_polynomial c) (λ q. bind (limited (sum p q)) (λ r. total_onto parts r)) r h in
      let d = bind_ok (limited (sum p b.0)) (λ r. total_onto parts r) r b.1.1 in
      let x = assertion_polynomial_value c b.0 s ab.0 b.1.0 in
      let y = limited_sum_value p b.0 d.0 s d.1.0 in
      let z = total_onto_value parts d.0 r s ab.1 d.1.1 in
      record {
        n = x.n + z.n;
        is = ap (λ u. with u (sum_of parts s)) x.is ∙ ap (λ u. with (finite x.n) u) z.is;
        value_is = let e = x.value_is in let f = z.value_is in omega (arith, ints, e, f, y);
      }

  -- the polynomial so far, times the value of the factors
  pub factors_onto_value : (parts : AssertionTrees) (p r : Polynomial) (s : State) → all_plain parts ≡ true → factors_onto parts p ≡ Ok r → Scales (product_of parts s) (polynomial_value p s) (polynomial_value r s)
  factors_onto_value no_assertions p r s a h =
      let e : p ≡ r = cc in
      record { n = 1; is = refl; value_is = let k = ap (λ x. polynomial_value x s) e in omega (arith, ints, k) }
  factors_onto_value (assertion_and c parts) p r s a h =
      let ab = and_parts (is_plain c) (all_plain parts) a in
      let b = bind_ok (assertion_polynomial c) (λ q. bind (limited (operation.product p q)) (λ r. factors_onto parts r)) r h in
      let d = bind_ok (limited (operation.product p b.0)) (λ r. factors_onto parts r) r b.1.1 in
      let x = assertion_polynomial_value c b.0 s ab.0 b.1.0 in
      let y = limited_product_value p b.0 d.0 s d.1.0 in
      let z = factors_onto_value parts d.0 r s ab.1 d.1.1 in
      record {
        n = x.n * z.n;
        is = ap (λ u. times u (product_of parts s)) x.is ∙ ap (λ u. times (finite x.n) u) z.is;
        value_is = z.value_is ∙ ap (λ v. v *ℤ pos z.n) (y ∙ ap (λ v. polynomial_value p s *ℤ v) x.value_is) ∙ mul_assoc (polynomial_value p s) (pos x.n) (pos z.n);
      }

-- ---- combinations

abbrev pub IsNotNegative : State → Polynomial → Type 0
IsNotNegative s p = pos 0 ≤ℤ polynomial_value p s

index_not_negative : (l : List Polynomial) (i : ℕ) (s : State) → All (IsNotNegative s) l → pos 0 ≤ℤ polynomial_value (slice_index_or l i nothing) s
index_not_negative [] i s h = omega (arith, ints)
index_not_negative (p ∷ l) zero s h = h 0 nothing (omega arith)
index_not_negative (p ∷ l) (suc i) s h = index_not_negative l i s (λ k d lt. h (suc k) d (omega arith))

at_not_negative : (l : List Polynomial) (i : ℤ) (s : State) → All (IsNotNegative s) l → pos 0 ≤ℤ polynomial_value (at l i) s
at_not_negative l (pos i) s h = index_not_negative l i s h
at_not_negative l (negsuc i) s h = omega (arith, ints)

item_not_negative : (item : Item) (l : List Polynomial) (r : Polynomial) (s : State) → All (IsNotNegative s) l → item_polynomial item l ≡ Ok r → pos 0 ≤ℤ polynomial_value r s
item_not_negative (once k i) l r s h e =
    let v = limited_multiple_value (pos k) (at l i) r s e in
    let m = mul_not_negative (pos k) (polynomial_value (at l i) s) (omega (arith, ints)) (at_not_negative l i s h) in
    omega (arith, ints, v, m)
item_not_negative (twice k i j) l r s h e =
    let a = at l i in
    let b = at l j in
    let g = bind_ok (limited (operation.product a b)) (λ r. limited (multiple (pos k) r)) r e in
    let x = limited_product_value a b g.0 s g.1.0 in
    let v = limited_multiple_value (pos k) g.0 r s g.1.1 in
    let m = mul_not_negative (polynomial_value a s) (polynomial_value b s) (at_not_negative l i s h) (at_not_negative l j s h) in
    let n : pos 0 ≤ℤ polynomial_value g.0 s = omega (arith, ints, x, m) in
    let o = mul_not_negative (pos k) (polynomial_value g.0 s) (omega (arith, ints)) n in
    omega (arith, ints, v, o)

-- all items, and then the sum
abbrev pub AllNotNegative : State → List Polynomial → Type 0
AllNotNegative s [] = Unit {0}
AllNotNegative s (p ∷ ps) = (pos 0 ≤ℤ polynomial_value p s) × AllNotNegative s ps

items_not_negative : (items : List Item) (l ps : List Polynomial) (s : State) → All (IsNotNegative s) l → item_polynomials items l ≡ Ok ps → AllNotNegative s ps
items_not_negative [] l [] s h e = tt
items_not_negative [] l (p ∷ ps) s h e = cc
items_not_negative (item ∷ items) l ps s h e =
    let a = bind_ok (item_polynomial item l) (λ p. bind (item_polynomials items l) (λ ps. Ok (p ∷ ps))) ps e in
    let b = bind_ok (item_polynomials items l) (λ ps. Ok (a.0 ∷ ps)) ps a.1.1 in
    let x = item_not_negative item l a.0 s h a.1.0 in
    let y = items_not_negative items l b.0 s h b.1.0 in
    joined a.0 b.0 ps b.1.1 x y
  where
    joined : (p : Polynomial) (qs rs : List Polynomial) → (let made : Result (List Polynomial) Stop = Ok (p ∷ qs) in made) ≡ Ok rs → pos 0 ≤ℤ polynomial_value p s → AllNotNegative s qs → AllNotNegative s rs
    joined p qs [] h x y = tt
    joined p qs (r ∷ rs) h x y =
        let e : p ≡ r = cc in
        let f : qs ≡ rs = cc in
        (let v = ap (λ z. polynomial_value z s) e in omega (arith, ints, v, x), rw (← f) y)

sum_not_negative : (ps : List Polynomial) (p r : Polynomial) (s : State) → pos 0 ≤ℤ polynomial_value p s → AllNotNegative s ps → sum_all p ps ≡ Ok r → pos 0 ≤ℤ polynomial_value r s
sum_not_negative [] p r s n h e = let k : p ≡ r = cc in let v = ap (λ x. polynomial_value x s) k in omega (arith, ints, v, n)
sum_not_negative (q ∷ qs) p r s n h e =
    let a = bind_ok (limited (sum p q)) (λ r. sum_all r qs) r e in
    let y = limited_sum_value p q a.0 s a.1.0 in
    let x = h.0 in
    sum_not_negative qs a.0 r s (omega (arith, ints, n, x, y)) h.1 a.1.1

pub combination_not_negative : (items : List Item) (l : List Polynomial) (r : Polynomial) (s : State) → All (IsNotNegative s) l → combination items l ≡ Ok r → pos 0 ≤ℤ polynomial_value r s
combination_not_negative items l r s h e =
    let a = bind_ok (item_polynomials items l) (λ ps. sum_all nothing ps) r e in
    sum_not_negative a.0 nothing r s (omega (arith, ints)) (items_not_negative items l a.0 s h a.1.0) a.1.1

pub two_not_negative : (v w : List Item) (l : List Polynomial) (z : Two) (s : State) → All (IsNotNegative s) l → two_combinations v w l ≡ Ok z → (pos 0 ≤ℤ polynomial_value z.first s) × (pos 0 ≤ℤ polynomial_value z.second s)
two_not_negative v w l z s h e =
    let a = bind_ok (item_polynomials v l) _ z e in
    let b = bind_ok (item_polynomials w l) _ z a.1.1 in
    let c = bind_ok (sum_all nothing a.0) _ z b.1.1 in
    let d = bind_ok (sum_all nothing b.0) _ z c.1.1 in
    let x = sum_not_negative a.0 nothing c.0 s (omega (arith, ints)) (items_not_negative v l a.0 s h a.1.0) c.1.0 in
    let y = sum_not_negative b.0 nothing d.0 s (omega (arith, ints)) (items_not_negative w l b.0 s h b.1.0) d.1.0 in
    let made = d.1.1 in
    let f : c.0 ≡ z.first = ap first_of_two made in
    let g : d.0 ≡ z.second = ap second_of_two made in
    (let k = ap (λ p. polynomial_value p s) f in omega (arith, ints, k, x), let k = ap (λ p. polynomial_value p s) g in omega (arith, ints, k, y))
  where
    first_of_two : Result Two Stop → Polynomial
    first_of_two (Ok t) = t.first
    first_of_two (Err failure) = nothing

    second_of_two : Result Two Stop → Polynomial
    second_of_two (Ok t) = t.second
    second_of_two (Err failure) = nothing
