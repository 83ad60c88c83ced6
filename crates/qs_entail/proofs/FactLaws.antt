-- The polynomials that a fact adds are at least 0.
use Rattle.std.proofs.Common.{◌≡◌, ℕ, zero, suc, ◌≤◌, ◌-◌, refl, ap, ◌∙◌, subst, arith, true, false}
use Rattle.std.specs.Prelude.{ℤ, pos, negsuc, ◌+ℤ◌, ◌-ℤ◌, ◌*ℤ◌, ◌≤ℤ◌, Bool, ◌&&◌, ◌||◌, nat_le, List, [], ◌∷◌, All, Result, Ok}
use Rattle.std.specs.Ordering.{int_eq}
use Rattle.std.proofs.lemmas.Int.{ints}
use Rattle.std.proofs.lemmas.List.Elements.{All-head, All-tail}
use Rattle.std.proofs.lemmas.Bool.{and_parts}
use Rattle.qs_assert.specs.declared.variable.Var.{Var}
use Rattle.qs_assert.specs.Trees.{TermTree, CondTree, le, lt, eq, ne, not, and, or}
use Rattle.qs_assert.specs.Values.{State, term_value, holds, bit_length}
use Rattle.qs_poly.specs.Polynomials as poly
use Rattle.qs_poly.specs.Polynomials.{Polynomial}
use Rattle.qs_poly.specs.Operations.{sum, multiple, number, lessened, single}
use Rattle.qs_poly.specs.Terms.{polynomial_eq}
use Rattle.qs_poly.specs.Values.{polynomial_value}
use Rattle.qs_poly.proofs.Equality.{polynomial_equal}
use Rattle.qs_poly.proofs.ValueLaws.{lessened_value, number_value, single_value}
use Rattle.qs_entail.specs.Certificates.{Item, FactTree, range, cost_range, apart, num_is, num_bounds, wrapu_is, wraps_is, wrapu_bounds, wraps_bounds, quotient_bounds, bits_bound, bits_half, bits_rise}
use Rattle.qs_base.specs.Results.{bind}
use Rattle.qs_entail.specs.Building.{Stop, limited, difference, term_polynomial, combination, two_combinations}
use Rattle.qs_entail.specs.Pushing.{Known}
use Rattle.qs_entail.specs.Facts.{least, greatest_of_type, Sides, equal_sides, different_sides, condition_at, condition, added}
use Rattle.qs_entail.specs.Verdicts.{fact_stands, outlined}
use Rattle.qs_entail.specs.Meaning.{InRange}
use Rattle.qs_entail.proofs.BuildingLaws.{bind_ok, require_ok, difference_value, limited_lessened_value, limited_sum_value, limited_multiple_value, term_polynomial_value}
use Rattle.qs_entail.proofs.Assertions.{AllNotNegative, combination_not_negative, two_not_negative}
use Rattle.qs_entail.proofs.PushingLaws.{Holds, made, not_true}
use Rattle.qs_entail.proofs.Numbers.{natural_part_same, natural_part_above, unsigned_same, unsigned_least, unsigned_greatest, signed_same, signed_least, signed_greatest, quotient_is, length_halves, length_rises}

-- ---- equal polynomials

pub same_value : (p q : Polynomial) (s : State) → polynomial_eq p q ≡ true → polynomial_value p s ≡ polynomial_value q s
same_value p q s h = ap (λ x. polynomial_value x s) (polynomial_equal p q h)

either : (a b : Bool) (P : Type 0) → (a || b) ≡ true → (a ≡ true → P) → (b ≡ true → P) → P
either true b P h x y = x refl
either false b P h x y = y h

-- ---- sides that differ

condition_at_holds : (cs : List CondTree) (i : ℕ) (c : CondTree) (s : State) → condition_at cs i ≡ Ok c → All (λ c. holds c s ≡ true) cs → holds c s ≡ true
condition_at_holds [] i c s e h = cc
condition_at_holds (d ∷ ds) zero c s e h = subst (λ c. holds c s ≡ true) (made d c e) (All-head (λ c. holds c s ≡ true) d ds h)
condition_at_holds (d ∷ ds) (suc i) c s e h = condition_at_holds ds i c s e (All-tail (λ c. holds c s ≡ true) d ds h)

condition_holds : (cs : List CondTree) (i : ℤ) (c : CondTree) (s : State) → condition cs i ≡ Ok c → All (λ c. holds c s ≡ true) cs → holds c s ≡ true
condition_holds cs (pos i) c s e h = condition_at_holds cs i c s e h
condition_holds cs (negsuc i) c s e h = cc

equal_differ : (c : CondTree) (t : Sides) (s : State) → equal_sides c ≡ Ok t → holds c s ≡ false → int_eq (term_value t.left s) (term_value t.right s) ≡ false
equal_differ (eq t u) r s e h = subst (λ (x : Sides). int_eq (term_value x.left s) (term_value x.right s) ≡ false) (made (record { left = t; right = u }) r e) h
equal_differ (le t u) r s e h = cc
equal_differ (lt t u) r s e h = cc
equal_differ (ne t u) r s e h = cc
equal_differ (not c) r s e h = cc
equal_differ (and cs) r s e h = cc
equal_differ (or cs) r s e h = cc

sides_differ : (c : CondTree) (t : Sides) (s : State) → different_sides c ≡ Ok t → holds c s ≡ true → int_eq (term_value t.left s) (term_value t.right s) ≡ false
sides_differ (ne t u) r s e h =
    subst (λ (x : Sides). int_eq (term_value x.left s) (term_value x.right s) ≡ false) (made (record { left = t; right = u }) r e) (not_true (int_eq (term_value t s) (term_value u s)) h)
sides_differ (not c) r s e h = equal_differ c r s e (not_true (holds c s) h)
sides_differ (le t u) r s e h = cc
sides_differ (lt t u) r s e h = cc
sides_differ (eq t u) r s e h = cc
sides_differ (and cs) r s e h = cc
sides_differ (or cs) r s e h = cc

-- a difference that is at least 0 and not 0
not_zero : (a b z : ℤ) → int_eq a b ≡ false → z ≡ a -ℤ b → pos 0 ≤ℤ z → pos 1 ≤ℤ z
not_zero a b z h e n = grind (arith, ints)

not_zero_turned : (a b z : ℤ) → int_eq a b ≡ false → z ≡ b -ℤ a → pos 0 ≤ℤ z → pos 1 ≤ℤ z
not_zero_turned a b z h e n = grind (arith, ints)

one_less : (m z l : ℤ) → m ≡ z +ℤ l → l ≡ negsuc 0 → pos 1 ≤ℤ z → pos 0 ≤ℤ m
one_less m z l e f h = omega (arith, ints, e, f, h)

-- ---- the facts

one : (a : Polynomial) (ps : List Polynomial) (s : State) → (let r : Result (List Polynomial) Stop = Ok (a ∷ []) in r) ≡ Ok ps → pos 0 ≤ℤ polynomial_value a s → AllNotNegative s ps
one a ps s e h = subst (λ ps. AllNotNegative s ps) (made (a ∷ []) ps e) (h, tt)

two : (a b : Polynomial) (ps : List Polynomial) (s : State) → (let r : Result (List Polynomial) Stop = Ok (a ∷ b ∷ []) in r) ≡ Ok ps → pos 0 ≤ℤ polynomial_value a s → pos 0 ≤ℤ polynomial_value b s → AllNotNegative s ps
two a b ps s e h k = subst (λ ps. AllNotNegative s ps) (made (a ∷ b ∷ []) ps e) (h, (k, tt))

-- the differences of polynomials of equal value
same_both : (p q a b : Polynomial) (ps : List Polynomial) (s : State) → (let r : Result (List Polynomial) Stop = Ok (a ∷ b ∷ []) in r) ≡ Ok ps → difference p q ≡ Ok a → difference q p ≡ Ok b → polynomial_value p s ≡ polynomial_value q s → AllNotNegative s ps
same_both p q a b ps s e h k same =
    let x = difference_value p q a s h in
    let y = difference_value q p b s k in
    two a b ps s e (omega (arith, ints, x, same)) (omega (arith, ints, y, same))

num_holds : (t : TermTree) (w : List Item) (k : Known) (ps : List Polynomial) (s : State) → added (num_is t w) k ≡ Ok ps → Holds k s → AllNotNegative s ps
num_holds t w k ps s e h =
    let p = bind_ok (term_polynomial t) _ ps e in
    let z = bind_ok (combination w k.polynomials) _ ps p.1.1 in
    let a = bind_ok (difference (single (poly.num p.0)) p.0) _ ps z.1.1 in
    let b = bind_ok (difference p.0 (single (poly.num p.0))) _ ps a.1.1 in
    let q = require_ok (polynomial_eq z.0 p.0) _ ps b.1.1 in
    let n = combination_not_negative w k.polynomials z.0 s h.polynomials z.1.0 in
    let v = same_value z.0 p.0 s q.0 in
    let same = single_value (poly.num p.0) s ∙ natural_part_same (polynomial_value p.0 s) (omega (arith, ints, n, v)) in
    same_both (single (poly.num p.0)) p.0 a.0 b.0 ps s q.1 a.1.0 b.1.0 same

num_bounds_hold : (t : TermTree) (k : Known) (ps : List Polynomial) (s : State) → added (num_bounds t) k ≡ Ok ps → AllNotNegative s ps
num_bounds_hold t k ps s e =
    let p = bind_ok (term_polynomial t) _ ps e in
    let a = bind_ok (difference (single (poly.num p.0)) p.0) _ ps p.1.1 in
    let x = difference_value (single (poly.num p.0)) p.0 a.0 s a.1.0 in
    let v = single_value (poly.num p.0) s in
    let n = natural_part_above (polynomial_value p.0 s) in
    two (single (poly.num p.0)) a.0 ps s a.1.1 (omega (arith, ints, v)) (omega (arith, ints, x, v, n))

range_holds : (x : Var) (k : Known) (ps : List Polynomial) (s : State) → added (range x) k ≡ Ok ps → InRange s → AllNotNegative s ps
range_holds x k ps s e h =
    let a = bind_ok (difference (single (poly.variable x)) (number (least x.number))) _ ps e in
    let b = bind_ok (difference (number (greatest_of_type x.number)) (single (poly.variable x))) _ ps a.1.1 in
    let u = difference_value (single (poly.variable x)) (number (least x.number)) a.0 s a.1.0 in
    let v = difference_value (number (greatest_of_type x.number)) (single (poly.variable x)) b.0 s b.1.0 in
    let w = single_value (poly.variable x) s in
    let l = number_value (least x.number) s in
    let g = number_value (greatest_of_type x.number) s in
    let f = h.from_least x in
    let t = h.to_greatest x in
    two a.0 b.0 ps s b.1.1 (omega (arith, ints, u, w, l, f)) (omega (arith, ints, v, w, g, t))

cost_holds : (f : ℕ) (k : Known) (ps : List Polynomial) (s : State) → added (cost_range f) k ≡ Ok ps → AllNotNegative s ps
cost_holds f k ps s e = let v = single_value (poly.cost f) s in one (single (poly.cost f)) ps s e (omega (arith, ints, v))

apart_holds : (i : ℤ) (w : List Item) (k : Known) (ps : List Polynomial) (s : State) → added (apart i w) k ≡ Ok ps → Holds k s → AllNotNegative s ps
apart_holds i w k ps s e h =
    let c = bind_ok (condition k.conditions i) _ ps e in
    let d = bind_ok (different_sides c.0) _ ps c.1.1 in
    let t = bind_ok (term_polynomial d.0.left) _ ps d.1.1 in
    let u = bind_ok (term_polynomial d.0.right) _ ps t.1.1 in
    let z = bind_ok (combination w k.polynomials) _ ps u.1.1 in
    let a = bind_ok (difference t.0 u.0) _ ps z.1.1 in
    let b = bind_ok (difference u.0 t.0) _ ps a.1.1 in
    let m = bind_ok (limited (sum z.0 (number (negsuc 0)))) _ ps b.1.1 in
    let q = require_ok (polynomial_eq z.0 a.0 || polynomial_eq z.0 b.0) _ ps m.1.1 in
    let apart = sides_differ c.0 d.0 s d.1.0 (condition_holds k.conditions i c.0 s c.1.0 h.conditions) in
    let n = combination_not_negative w k.polynomials z.0 s h.polynomials z.1.0 in
    let x = term_polynomial_value d.0.left t.0 s t.1.0 in
    let y = term_polynomial_value d.0.right u.0 s u.1.0 in
    let v = difference_value t.0 u.0 a.0 s a.1.0 in
    let v' = difference_value u.0 t.0 b.0 s b.1.0 in
    let left = term_value d.0.left s in
    let right = term_value d.0.right s in
    let is_more = v ∙ ap (λ w. w -ℤ polynomial_value u.0 s) x ∙ ap (λ w. left -ℤ w) y in
    let is_less = v' ∙ ap (λ w. w -ℤ polynomial_value t.0 s) y ∙ ap (λ w. right -ℤ w) x in
    let more : pos 1 ≤ℤ polynomial_value z.0 s =
    either (polynomial_eq z.0 a.0) (polynomial_eq z.0 b.0) (pos 1 ≤ℤ polynomial_value z.0 s) q.0
    (λ same. not_zero left right (polynomial_value z.0 s) apart (same_value z.0 a.0 s same ∙ is_more) n)
    (λ same. not_zero_turned left right (polynomial_value z.0 s) apart (same_value z.0 b.0 s same ∙ is_less) n) in
    let o = limited_sum_value z.0 (number (negsuc 0)) m.0 s m.1.0 in
    one m.0 ps s q.1 (one_less (polynomial_value m.0 s) (polynomial_value z.0 s) (polynomial_value (number (negsuc 0)) s) o (number_value (negsuc 0) s) more)

wrapu_holds : (t : TermTree) (v w : List Item) (k : Known) (ps : List Polynomial) (s : State) → added (wrapu_is t v w) k ≡ Ok ps → Holds k s → AllNotNegative s ps
wrapu_holds t v w k ps s e h =
    let p = bind_ok (term_polynomial t) _ ps e in
    let room = bind_ok (difference (number (pos 4294967295)) p.0) _ ps p.1.1 in
    let z = bind_ok (two_combinations v w k.polynomials) _ ps room.1.1 in
    let a = bind_ok (difference (single (poly.wrapu p.0)) p.0) _ ps z.1.1 in
    let b = bind_ok (difference p.0 (single (poly.wrapu p.0))) _ ps a.1.1 in
    let q = require_ok (polynomial_eq z.0.first p.0 && polynomial_eq z.0.second room.0) _ ps b.1.1 in
    let eqs = and_parts (polynomial_eq z.0.first p.0) (polynomial_eq z.0.second room.0) q.0 in
    let n = two_not_negative v w k.polynomials z.0 s h.polynomials z.1.0 in
    let n0 = n.0 in
    let n1 = n.1 in
    let x = same_value z.0.first p.0 s eqs.0 in
    let y = same_value z.0.second room.0 s eqs.1 in
    let d = difference_value (number (pos 4294967295)) p.0 room.0 s room.1.0 in
    let l = number_value (pos 4294967295) s in
    let same = single_value (poly.wrapu p.0) s ∙ unsigned_same (polynomial_value p.0 s) (omega (arith, ints, n0, x)) (omega (arith, ints, n1, y, d, l)) in
    same_both (single (poly.wrapu p.0)) p.0 a.0 b.0 ps s q.1 a.1.0 b.1.0 same

wraps_holds : (t : TermTree) (v w : List Item) (k : Known) (ps : List Polynomial) (s : State) → added (wraps_is t v w) k ≡ Ok ps → Holds k s → AllNotNegative s ps
wraps_holds t v w k ps s e h =
    let p = bind_ok (term_polynomial t) _ ps e in
    let above = bind_ok (limited (sum p.0 (number (pos 2147483648)))) _ ps p.1.1 in
    let room = bind_ok (difference (number (pos 2147483647)) p.0) _ ps above.1.1 in
    let z = bind_ok (two_combinations v w k.polynomials) _ ps room.1.1 in
    let a = bind_ok (difference (single (poly.wraps p.0)) p.0) _ ps z.1.1 in
    let b = bind_ok (difference p.0 (single (poly.wraps p.0))) _ ps a.1.1 in
    let q = require_ok (polynomial_eq z.0.first above.0 && polynomial_eq z.0.second room.0) _ ps b.1.1 in
    let eqs = and_parts (polynomial_eq z.0.first above.0) (polynomial_eq z.0.second room.0) q.0 in
    let n = two_not_negative v w k.polynomials z.0 s h.polynomials z.1.0 in
    let n0 = n.0 in
    let n1 = n.1 in
    let x = same_value z.0.first above.0 s eqs.0 in
    let y = same_value z.0.second room.0 s eqs.1 in
    let c = limited_sum_value p.0 (number (pos 2147483648)) above.0 s above.1.0 in
    let d = difference_value (number (pos 2147483647)) p.0 room.0 s room.1.0 in
    let g = number_value (pos 2147483648) s in
    let l = number_value (pos 2147483647) s in
    let same = single_value (poly.wraps p.0) s ∙ signed_same (polynomial_value p.0 s) (omega (arith, ints, n0, x, c, g)) (omega (arith, ints, n1, y, d, l)) in
    same_both (single (poly.wraps p.0)) p.0 a.0 b.0 ps s q.1 a.1.0 b.1.0 same

wrapu_bounds_hold : (t : TermTree) (k : Known) (ps : List Polynomial) (s : State) → added (wrapu_bounds t) k ≡ Ok ps → AllNotNegative s ps
wrapu_bounds_hold t k ps s e =
    let p = bind_ok (term_polynomial t) (λ p. bind (difference (number (pos 4294967295)) (single (poly.wrapu p))) (λ a. Ok (single (poly.wrapu p) ∷ a ∷ []))) ps e in
    let a = bind_ok (difference (number (pos 4294967295)) (single (poly.wrapu p.0))) (λ a. Ok (single (poly.wrapu p.0) ∷ a ∷ [])) ps p.1.1 in
    let x = difference_value (number (pos 4294967295)) (single (poly.wrapu p.0)) a.0 s a.1.0 in
    let l = number_value (pos 4294967295) s in
    let v = single_value (poly.wrapu p.0) s in
    let b = unsigned_least (polynomial_value p.0 s) in
    let c = unsigned_greatest (polynomial_value p.0 s) in
    two (single (poly.wrapu p.0)) a.0 ps s a.1.1 (omega (arith, ints, v, b)) (omega (arith, ints, x, l, v, c))

wraps_bounds_hold : (t : TermTree) (k : Known) (ps : List Polynomial) (s : State) → added (wraps_bounds t) k ≡ Ok ps → AllNotNegative s ps
wraps_bounds_hold t k ps s e =
    let p =
    bind_ok (term_polynomial t)
    (λ p. bind (limited (sum (single (poly.wraps p)) (number (pos 2147483648)))) (λ a. bind (difference (number (pos 2147483647)) (single (poly.wraps p))) (λ b. Ok (a ∷ b ∷ []))))
    ps e in
    let a =
    bind_ok (limited (sum (single (poly.wraps p.0)) (number (pos 2147483648)))) (λ a. bind (difference (number (pos 2147483647)) (single (poly.wraps p.0))) (λ b. Ok (a ∷ b ∷ []))) ps p.1.1 in
    let b = bind_ok (difference (number (pos 2147483647)) (single (poly.wraps p.0))) (λ b. Ok (a.0 ∷ b ∷ [])) ps a.1.1 in
    let x = limited_sum_value (single (poly.wraps p.0)) (number (pos 2147483648)) a.0 s a.1.0 in
    let y = difference_value (number (pos 2147483647)) (single (poly.wraps p.0)) b.0 s b.1.0 in
    let g = number_value (pos 2147483648) s in
    let l = number_value (pos 2147483647) s in
    let v = single_value (poly.wraps p.0) s in
    let c = signed_least (polynomial_value p.0 s) in
    let d = signed_greatest (polynomial_value p.0 s) in
    two a.0 b.0 ps s b.1.1 (omega (arith, ints, x, g, v, c)) (omega (arith, ints, y, l, v, d))

at_least_one : (n : ℕ) → nat_le 1 n ≡ true → 1 ≤ n
at_least_one n h = grind arith

quotient_holds : (t : TermTree) (n : ℕ) (k : Known) (ps : List Polynomial) (s : State) → added (quotient_bounds t n) k ≡ Ok ps → nat_le 1 n ≡ true → AllNotNegative s ps
quotient_holds t n k ps s e st =
    let p = bind_ok (term_polynomial t) _ ps e in
    let d = single (poly.div p.0 n) in
    let a = bind_ok (limited (lessened p.0 n d 0)) _ ps p.1.1 in
    let b = bind_ok (limited (multiple (negsuc 0) (lessened p.0 n d (n - 1)))) _ ps a.1.1 in
    let z = polynomial_value p.0 s in
    let q = quotient_is z n (at_least_one n st) in
    let v = ap (λ x. pos n *ℤ x) (single_value (poly.div p.0 n) s) in
    let x = limited_lessened_value p.0 n d 0 a.0 s a.1.0 in
    let y = limited_multiple_value (negsuc 0) (lessened p.0 n d (n - 1)) b.0 s b.1.0 in
    let c = lessened_value p.0 n d (n - 1) s in
    let l = at_least_one n st in
    let f = q.at_least in
    let g = q.less in
    two a.0 b.0 ps s b.1.1 (omega (arith, ints, x, v, f)) (omega (arith, ints, y, c, l, v, g))

bits_hold : (t : TermTree) (k : Known) (ps : List Polynomial) (s : State) → added (bits_bound t) k ≡ Ok ps → AllNotNegative s ps
bits_hold t k ps s e =
    let p = bind_ok (term_polynomial t) _ ps e in
    let v = single_value (poly.bits p.0) s in
    one (single (poly.bits p.0)) ps s p.1.1 (omega (arith, ints, v))

half_holds : (t : TermTree) (w : List Item) (k : Known) (ps : List Polynomial) (s : State) → added (bits_half t w) k ≡ Ok ps → Holds k s → AllNotNegative s ps
half_holds t w k ps s e h =
    let p = bind_ok (term_polynomial t) _ ps e in
    let side = bind_ok (difference p.0 (number (pos 1))) _ ps p.1.1 in
    let z = bind_ok (combination w k.polynomials) _ ps side.1.1 in
    let halved = single (poly.div p.0 2) in
    let whole = single (poly.bits p.0) in
    let a = bind_ok (limited (lessened whole 1 (single (poly.bits halved)) 1)) _ ps z.1.1 in
    let b = bind_ok (limited (multiple (negsuc 0) a.0)) _ ps a.1.1 in
    let q = require_ok (polynomial_eq z.0 side.0) _ ps b.1.1 in
    let n = combination_not_negative w k.polynomials z.0 s h.polynomials z.1.0 in
    let f = same_value z.0 side.0 s q.0 in
    let d = difference_value p.0 (number (pos 1)) side.0 s side.1.0 in
    let l = number_value (pos 1) s in
    let u = length_halves (polynomial_value p.0 s) (omega (arith, ints, n, f, d, l)) in
    let x = limited_lessened_value whole 1 (single (poly.bits halved)) 1 a.0 s a.1.0 in
    let v = single_value (poly.bits p.0) s in
    let v' = single_value (poly.bits halved) s ∙ ap (λ c. pos (bit_length c)) (single_value (poly.div p.0 2) s) in
    let m = limited_multiple_value (negsuc 0) a.0 b.0 s b.1.0 in
    let zero_value : polynomial_value a.0 s ≡ pos 0 = omega (arith, ints, u, x, v, v') in
    two a.0 b.0 ps s q.1 (omega (arith, ints, zero_value)) (omega (arith, ints, m, zero_value))

rise_holds : (t u : TermTree) (w : List Item) (k : Known) (ps : List Polynomial) (s : State) → added (bits_rise t u w) k ≡ Ok ps → Holds k s → AllNotNegative s ps
rise_holds t u w k ps s e h =
    let p = bind_ok (term_polynomial t) _ ps e in
    let o = bind_ok (term_polynomial u) _ ps p.1.1 in
    let z = bind_ok (combination w k.polynomials) _ ps o.1.1 in
    let side = bind_ok (difference o.0 p.0) _ ps z.1.1 in
    let a = bind_ok (difference (single (poly.bits o.0)) (single (poly.bits p.0))) _ ps side.1.1 in
    let q = require_ok (polynomial_eq z.0 side.0) _ ps a.1.1 in
    let n = combination_not_negative w k.polynomials z.0 s h.polynomials z.1.0 in
    let f = same_value z.0 side.0 s q.0 in
    let d = difference_value o.0 p.0 side.0 s side.1.0 in
    let le = length_rises (polynomial_value p.0 s) (polynomial_value o.0 s) (omega (arith, ints, n, f, d)) in
    let x = difference_value (single (poly.bits o.0)) (single (poly.bits p.0)) a.0 s a.1.0 in
    let v = single_value (poly.bits o.0) s in
    let v' = single_value (poly.bits p.0) s in
    one a.0 ps s q.1 (omega (arith, ints, x, v, v', le))

pub fact_holds : (f : FactTree) (k : Known) (ps : List Polynomial) (s : State) → added f k ≡ Ok ps → fact_stands f (outlined k) ≡ true → InRange s → Holds k s → AllNotNegative s ps
fact_holds (range x) k ps s e st r h = range_holds x k ps s e r
fact_holds (cost_range f) k ps s e st r h = cost_holds f k ps s e
fact_holds (apart i w) k ps s e st r h = apart_holds i w k ps s e h
fact_holds (num_is t w) k ps s e st r h = num_holds t w k ps s e h
fact_holds (num_bounds t) k ps s e st r h = num_bounds_hold t k ps s e
fact_holds (wrapu_is t v w) k ps s e st r h = wrapu_holds t v w k ps s e h
fact_holds (wraps_is t v w) k ps s e st r h = wraps_holds t v w k ps s e h
fact_holds (wrapu_bounds t) k ps s e st r h = wrapu_bounds_hold t k ps s e
fact_holds (wraps_bounds t) k ps s e st r h = wraps_bounds_hold t k ps s e
fact_holds (quotient_bounds t n) k ps s e st r h = quotient_holds t n k ps s e st
fact_holds (bits_bound t) k ps s e st r h = bits_hold t k ps s e
fact_holds (bits_half t w) k ps s e st r h = half_holds t w k ps s e h
fact_holds (bits_rise t u w) k ps s e st r h = rise_holds t u w k ps s e h
