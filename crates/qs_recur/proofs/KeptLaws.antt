-- What was at the entry is left, wherever the guard of the variable stands among what is known.
use Rattle.std.proofs.Common.{◌≡◌, ◌<◌, ◌+◌, ◌^◌, ℕ, zero, suc, refl, ap, ◌∙◌, subst, arith, Bool, true, List, [], ◌∷◌, ◌++◌, length, Ok, None}
use Rattle.std.specs.Prelude.{pos, ◌&&◌, nat_lt}
use Rattle.std.proofs.lemmas.Bool.Decides.{nat_tests}
use Rattle.std.proofs.lemmas.List.{length-append}
use Rattle.qs_assert.specs.declared.define.Define.{Define}
use Rattle.qs_assert.specs.declared.variable.VarKind.{VarKind}
use Rattle.qs_assert.specs.Trees.{bits, CondTree, AssertionTree}
use Rattle.qs_poly.specs.Polynomials as poly
use Rattle.qs_poly.specs.Polynomials.{AtomTree, Polynomial}
use Rattle.qs_poly.specs.Operations.{sum, number, lessened, single}
use Rattle.qs_entail.specs.Building.{at}
use Rattle.qs_entail.specs.Certificates.{cost_range, range, num_is, bits_bound, bits_rise, arithmetic, fact}
use Rattle.qs_entail.specs.Facts.{added}
use Rattle.qs_entail.specs.Faults.{arithmetic_holds}
use Rattle.qs_entail.specs.Pushing.{Known}
use Rattle.qs_entail.specs.Verdicts.{are_counted, fault}
use Rattle.qs_recur.proofs.Readings.{once_reading, found_equal}
use Rattle.qs_recur.proofs.Smallness.{small_single, small_difference}
use Rattle.qs_recur.proofs.StepLaws.{fault_fact, fault_arithmetic}
use Rattle.qs_recur.proofs.SmallFacts.{no_limit, IsOne, IsTwo, one_number, one_single, two_is_known, two_difference, x_of, range_added, num_added, twice_gives, small_two, small_three, one_combined, two_combined, three_combined}
use Rattle.qs_recur.specs.Needs.{unsigned, costs}
use Rattle.qs_recur.specs.Certificates.{unsigned_term, item, pair, kept_items_at, value_kept_at, kept_bit_items, bits_kept_at}
use Rattle.qs_recur.proofs.BitLaws.{bits_of, bits_one, rise_added, number_added, risen_kept}
use Rattle.qs_recur.proofs.Identities.{x_less, once_of, greatest_unsigned, x_again, term_of, once_with, y_again, kept}
use Rattle.qs_recur.proofs.SubtractionLaws.{costs_polynomial, small_term, holds}
use Rattle.qs_recur.proofs.WayLaws.{once_known, y_less_x, x_less_y}

-- ---- places in lists

pub at_left : (xs ys : List Polynomial) (i : ℕ) → i < length xs → at (xs ++ ys) (pos i) ≡ at xs (pos i)
at_left [] ys i l = absurd (omega (arith, l))
at_left (x ∷ xs) ys zero l = refl
at_left (x ∷ xs) ys (suc i) l = at_left xs ys i (omega (arith, l))

at_length : (xs ys : List Polynomial) (y : Polynomial) → at (xs ++ y ∷ ys) (pos (length xs)) ≡ y
at_length [] ys y = refl
at_length (x ∷ xs) ys y = at_length xs ys y

pub at_next : (xs ys : List Polynomial) (y : Polynomial) (n : ℕ) → length xs ≡ n → at (xs ++ y ∷ ys) (pos n) ≡ y
at_next xs ys y n e = subst (λ (m : ℕ). at (xs ++ y ∷ ys) (pos m) ≡ y) e (at_length xs ys y)

at_suc : (xs ys : List Polynomial) (y z : Polynomial) → at (xs ++ y ∷ z ∷ ys) (pos (suc (length xs))) ≡ z
at_suc [] ys y z = refl
at_suc (x ∷ xs) ys y z = at_suc xs ys y z

pub at_second : (xs ys : List Polynomial) (y z : Polynomial) (n : ℕ) → suc (length xs) ≡ n → at (xs ++ y ∷ z ∷ ys) (pos n) ≡ z
at_second xs ys y z n e = subst (λ (m : ℕ). at (xs ++ y ∷ z ∷ ys) (pos m) ≡ z) e (at_suc xs ys y z)

is_less : (i m : ℕ) → i < m → nat_lt i m ≡ true
is_less i m l = grind (arith, nat_tests, l)

pub one_counted : (i m : ℕ) → i < m → are_counted (item i ∷ []) m ≡ true
one_counted i m l = ap (λ (b : Bool). b && true) (is_less i m l)

two_counted : (i j m : ℕ) → i < m → j < m → are_counted (item i ∷ item j ∷ []) m ≡ true
two_counted i j m k l = ap (λ (b : Bool). b && (nat_lt j m && true)) (is_less i m k) ∙ ap (λ (b : Bool). b && true) (is_less j m l)

pairs_counted : (a b c d m : ℕ) → a < m → b < m → c < m → d < m → are_counted (pair a d ∷ pair b d ∷ pair c d ∷ []) m ≡ true
pairs_counted a b c d m i j k l =
    ap (λ (t : Bool). (t && nat_lt d m) && ((nat_lt b m && nat_lt d m) && ((nat_lt c m && nat_lt d m) && true))) (is_less a m i)
    ∙ ap (λ (t : Bool). t && ((nat_lt b m && t) && ((nat_lt c m && t) && true))) (is_less d m l)
    ∙ ap (λ (t : Bool). (t && true) && ((nat_lt c m && true) && true)) (is_less b m j)
    ∙ ap (λ (t : Bool). (t && true) && true) (is_less c m k)

-- ---- by the value

module _ (x o : VarKind) (f : ℕ) (l : List Polynomial) (less more : ℕ) (less_in : less < length l) (more_in : more < length l) (less_there : at l (pos less) ≡ y_less_x x o) (more_there : at l (pos more) ≡ x_less_y x o) (cs : List CondTree) (ds : List Define) where
  abbrev n : ℕ
  n = length l

  abbrev px : Polynomial
  px = x_of x

  abbrev py : Polynomial
  py = x_of o

  abbrev nx : AtomTree
  nx = poly.num px

  abbrev ny : AtomTree
  ny = poly.num py

  abbrev from_zero : Polynomial
  from_zero = x_less px 0

  abbrev to_greatest : Polynomial
  to_greatest = lessened greatest_unsigned 1 px 0

  abbrev nx_less : Polynomial
  nx_less = lessened (single nx) 1 px 0

  abbrev less_nx : Polynomial
  less_nx = lessened px 1 (single nx) 0

  abbrev ny_less : Polynomial
  ny_less = lessened (single ny) 1 py 0

  abbrev less_ny : Polynomial
  less_ny = lessened py 1 (single ny) 0

  abbrev c : AtomTree
  c = poly.cost f

  abbrev l1 : List Polynomial
  l1 = l ++ from_zero ∷ to_greatest ∷ []

  abbrev l2 : List Polynomial
  l2 = l1 ++ nx_less ∷ less_nx ∷ []

  abbrev l3 : List Polynomial
  l3 = l2 ++ ny_less ∷ less_ny ∷ []

  abbrev l4 : List Polynomial
  l4 = l3 ++ single c ∷ []

  abbrev known : List Polynomial → Known
  known ps = record { conditions = cs; polynomials = ps }

  length_one : length l1 ≡ n + 2
  length_one = length-append l (from_zero ∷ to_greatest ∷ [])

  length_two : length l2 ≡ n + 4
  length_two = let e = length-append l1 (nx_less ∷ less_nx ∷ []) in let h = length_one in omega (arith, e, h)

  length_three : length l3 ≡ n + 6
  length_three = let e = length-append l2 (ny_less ∷ less_ny ∷ []) in let h = length_two in omega (arith, e, h)

  length_four : length l4 ≡ n + 7
  length_four = let e = length-append l3 (single c ∷ []) in let h = length_three in omega (arith, e, h)

  zero_in_one : at l1 (pos n) ≡ from_zero
  zero_in_one = at_next l (to_greatest ∷ []) from_zero n refl

  zero_in_two : at l2 (pos n) ≡ from_zero
  zero_in_two = let h = length_one in at_left l1 (nx_less ∷ less_nx ∷ []) n (omega (arith, h)) ∙ zero_in_one

  less_in_two : at l2 (pos less) ≡ y_less_x x o
  less_in_two =
      let h = length_one in
      at_left l1 (nx_less ∷ less_nx ∷ []) less (omega (arith, h, less_in)) ∙ (at_left l (from_zero ∷ to_greatest ∷ []) less less_in ∙ less_there)

  more_in_four : at l4 (pos more) ≡ x_less_y x o
  more_in_four =
      let h = length_one in
      let i = length_two in
      let j = length_three in
      at_left l3 (single c ∷ []) more (omega (arith, j, more_in))
      ∙ (at_left l2 (ny_less ∷ less_ny ∷ []) more (omega (arith, i, more_in)) ∙ (at_left l1 (nx_less ∷ less_nx ∷ []) more (omega (arith, h, more_in)) ∙ (at_left l (from_zero ∷ to_greatest ∷ []) more more_in ∙ more_there)))

  number_in_four : at l4 (pos (n + 2)) ≡ nx_less
  number_in_four =
      let h = length_one in
      let i = length_two in
      let j = length_three in
      at_left l3 (single c ∷ []) (n + 2) (omega (arith, j)) ∙ (at_left l2 (ny_less ∷ less_ny ∷ []) (n + 2) (omega (arith, i)) ∙ at_next l1 (less_nx ∷ []) nx_less (n + 2) h)

  left_in_four : at l4 (pos (n + 5)) ≡ less_ny
  left_in_four =
      let i = length_two in
      let j = length_three in
      at_left l3 (single c ∷ []) (n + 5) (omega (arith, j)) ∙ at_second l2 [] ny_less less_ny (n + 5) (omega (arith, i))

  cost_in_four : at l4 (pos (n + 6)) ≡ single c
  cost_in_four = at_next l3 [] (single c) (n + 6) length_three

  x_one : IsOne px
  x_one = one_single (poly.variable (unsigned x)) tt

  y_one : IsOne py
  y_one = one_single (poly.variable (unsigned o)) tt

  nx_one : IsOne (single nx)
  nx_one = one_single nx x_one.canonical

  ny_one : IsOne (single ny)
  ny_one = one_single ny y_one.canonical

  from_zero_two : IsTwo from_zero
  from_zero_two = two_difference px (number (pos 0)) x_one (one_number 0 (omega arith))

  x_added : added (num_is (unsigned_term x) (item n ∷ [])) (known l1) ≡ Ok (nx_less ∷ less_nx ∷ [])
  x_added =
      let a = once_known l1 n from_zero zero_in_one (two_is_known from_zero from_zero_two) in
      num_added (unsigned_term x) (item n ∷ []) (known l1) px (once_of from_zero) refl x_one (one_combined l1 (item n) (once_of from_zero) a)
      (found_equal (once_of from_zero) px a.1.canonical x_one.canonical (λ g. x_again g px))

  y_added : added (num_is (unsigned_term o) (item n ∷ item less ∷ [])) (known l2) ≡ Ok (ny_less ∷ less_ny ∷ [])
  y_added =
      let a = once_known l2 n from_zero zero_in_two (two_is_known from_zero from_zero_two) in
      let b = once_known l2 less (y_less_x x o) less_in_two (two_is_known (y_less_x x o) (two_difference py px y_one x_one)) in
      let z = sum (once_of from_zero) (once_of (y_less_x x o)) in
      num_added (unsigned_term o) (item n ∷ item less ∷ []) (known l2) py z refl y_one (two_combined l2 (item n) (item less) (once_of from_zero) (once_of (y_less_x x o)) a b)
      (found_equal z py (small_two (once_of from_zero) (once_of (y_less_x x o)) a.1 b.1).canonical y_one.canonical (λ g. y_again g px py))

  abbrev before : AssertionTree
  before = costs (unsigned_term x) f

  abbrev after : AssertionTree
  after = costs (unsigned_term o) f

  items_hold : arithmetic_holds (kept_items_at n more) (known l4) before after ≡ Ok tt
  items_hold =
      let one = λ (i : ℕ) (q : Polynomial) (h : at l4 (pos i) ≡ q) (y : IsTwo q). twice_gives l4 1 i (n + 6) (2 ^ 34) c q h cost_in_four (omega arith) (omega arith) tt (two_is_known q y) in
      let i = one (n + 2) nx_less number_in_four (two_difference (single nx) px nx_one x_one) in
      let j = one more (x_less_y x o) more_in_four (two_difference px py x_one y_one) in
      let k = one (n + 5) less_ny left_in_four (two_difference py (single ny) y_one ny_one) in
      let a = term_of nx c in
      let b = term_of ny c in
      let s = small_single c tt in
      let small_a = small_term nx c (small_single nx x_one.canonical) s in
      let small_b = small_term ny c (small_single ny y_one.canonical) s in
      let small_d = small_difference 1 1 1 1 2 a b small_a small_b in
      let z = sum (sum (once_with c nx_less) (once_with c (x_less_y x o))) (once_with c less_ny) in
      holds (kept_items_at n more) (known l4) before after a b z (costs_polynomial (unsigned_term x) f px refl x_one) (costs_polynomial (unsigned_term o) f py refl y_one)
      (three_combined l4 (pair (n + 2) (n + 6)) (pair more (n + 6)) (pair (n + 5) (n + 6)) (once_with c nx_less) (once_with c (x_less_y x o)) (once_with c less_ny) i j k)
      (no_limit 2 2 2 (lessened a 1 b 0) (omega arith) (omega arith) (omega arith) small_d)
      (found_equal z (lessened a 1 b 0) (small_three (once_with c nx_less) (once_with c (x_less_y x o)) (once_with c less_ny) i.1 j.1 k.1).canonical small_d.canonical (λ g. kept g px py nx ny c))

  pub value_kept_holds : fault (value_kept_at n less more f x o) ds (known l) before after ≡ None
  value_kept_holds =
      let last = arithmetic (kept_items_at n more) in
      let third = fact (cost_range f) last in
      let second = fact (num_is (unsigned_term o) (item n ∷ item less ∷ [])) third in
      let first = fact (num_is (unsigned_term x) (item n ∷ [])) second in
      let h = length_one in
      let i = length_two in
      let k = length_four in
      fault_fact (range (unsigned x)) first ds (known l) before after (from_zero ∷ to_greatest ∷ []) refl (range_added x (known l))
      (fault_fact (num_is (unsigned_term x) (item n ∷ [])) second ds (known l1) before after (nx_less ∷ less_nx ∷ []) (one_counted n (length l1) (omega (arith, h))) x_added
      (fault_fact (num_is (unsigned_term o) (item n ∷ item less ∷ [])) third ds (known l2) before after (ny_less ∷ less_ny ∷ []) (two_counted n less (length l2) (omega (arith, i)) (omega (arith, i, less_in))) y_added
      (fault_fact (cost_range f) last ds (known l3) before after (single c ∷ []) refl refl
      (fault_arithmetic (kept_items_at n more) ds (known l4) before after
      (pairs_counted (n + 2) more (n + 5) (n + 6) (length l4) (omega (arith, k)) (omega (arith, k, more_in)) (omega (arith, k)) (omega (arith, k)))
      items_hold))))

-- ---- by the bits

module _ (x o : VarKind) (f : ℕ) (l : List Polynomial) (more : ℕ) (more_in : more < length l) (more_there : at l (pos more) ≡ x_less_y x o) (cs : List CondTree) (ds : List Define) where
  abbrev m : ℕ
  m = length l

  abbrev qx : Polynomial
  qx = x_of x

  abbrev qy : Polynomial
  qy = x_of o

  abbrev bx : Polynomial
  bx = bits_of qx

  abbrev by : Polynomial
  by = bits_of qy

  abbrev mx : AtomTree
  mx = poly.num bx

  abbrev my : AtomTree
  my = poly.num by

  abbrev e : AtomTree
  e = poly.cost f

  abbrev rise : Polynomial
  rise = lessened bx 1 by 0

  abbrev mx_less : Polynomial
  mx_less = lessened (single mx) 1 bx 0

  abbrev less_mx : Polynomial
  less_mx = lessened bx 1 (single mx) 0

  abbrev my_less : Polynomial
  my_less = lessened (single my) 1 by 0

  abbrev less_my : Polynomial
  less_my = lessened by 1 (single my) 0

  abbrev k1 : List Polynomial
  k1 = l ++ rise ∷ []

  abbrev k2 : List Polynomial
  k2 = k1 ++ bx ∷ []

  abbrev k3 : List Polynomial
  k3 = k2 ++ mx_less ∷ less_mx ∷ []

  abbrev k4 : List Polynomial
  k4 = k3 ++ by ∷ []

  abbrev k5 : List Polynomial
  k5 = k4 ++ my_less ∷ less_my ∷ []

  abbrev k6 : List Polynomial
  k6 = k5 ++ single e ∷ []

  abbrev under : List Polynomial → Known
  under ps = record { conditions = cs; polynomials = ps }

  one_long : length k1 ≡ m + 1
  one_long = length-append l (rise ∷ [])

  two_long : length k2 ≡ m + 2
  two_long = let a = length-append k1 (bx ∷ []) in let b = one_long in omega (arith, a, b)

  three_long : length k3 ≡ m + 4
  three_long = let a = length-append k2 (mx_less ∷ less_mx ∷ []) in let b = two_long in omega (arith, a, b)

  four_long : length k4 ≡ m + 5
  four_long = let a = length-append k3 (by ∷ []) in let b = three_long in omega (arith, a, b)

  five_long : length k5 ≡ m + 7
  five_long = let a = length-append k4 (my_less ∷ less_my ∷ []) in let b = four_long in omega (arith, a, b)

  six_long : length k6 ≡ m + 8
  six_long = let a = length-append k5 (single e ∷ []) in let b = five_long in omega (arith, a, b)

  bits_in_two : at k2 (pos (m + 1)) ≡ bx
  bits_in_two = at_next k1 [] bx (m + 1) one_long

  bits_in_four : at k4 (pos (m + 4)) ≡ by
  bits_in_four = at_next k3 [] by (m + 4) three_long

  -- what stands in the third and fourth list stands in the last
  three_in_six : (i : ℕ) → i < m + 4 → at k6 (pos i) ≡ at k3 (pos i)
  three_in_six i l =
      let a = three_long in
      let b = four_long in
      let c = five_long in
      at_left k5 (single e ∷ []) i (omega (arith, c, l)) ∙ (at_left k4 (my_less ∷ less_my ∷ []) i (omega (arith, b, l)) ∙ at_left k3 (by ∷ []) i (omega (arith, a, l)))

  rise_in_six : at k6 (pos m) ≡ rise
  rise_in_six =
      let a = one_long in
      let b = two_long in
      three_in_six m (omega arith) ∙ (at_left k2 (mx_less ∷ less_mx ∷ []) m (omega (arith, b)) ∙ (at_left k1 (bx ∷ []) m (omega (arith, a)) ∙ at_next l [] rise m refl))

  number_in_six : at k6 (pos (m + 2)) ≡ mx_less
  number_in_six = three_in_six (m + 2) (omega arith) ∙ at_next k2 (less_mx ∷ []) mx_less (m + 2) two_long

  left_in_six : at k6 (pos (m + 6)) ≡ less_my
  left_in_six =
      let b = four_long in
      let c = five_long in
      at_left k5 (single e ∷ []) (m + 6) (omega (arith, c)) ∙ at_second k4 [] my_less less_my (m + 6) (omega (arith, b))

  cost_in_six : at k6 (pos (m + 7)) ≡ single e
  cost_in_six = at_next k5 [] (single e) (m + 7) five_long

  qx_one : IsOne qx
  qx_one = one_single (poly.variable (unsigned x)) tt

  qy_one : IsOne qy
  qy_one = one_single (poly.variable (unsigned o)) tt

  bx_one : IsOne bx
  bx_one = bits_one qx qx_one

  by_one : IsOne by
  by_one = bits_one qy qy_one

  mx_one : IsOne (single mx)
  mx_one = one_single mx bx_one.canonical

  my_one : IsOne (single my)
  my_one = one_single my by_one.canonical

  abbrev bits_before : AssertionTree
  bits_before = costs (bits (unsigned_term x)) f

  abbrev bits_after : AssertionTree
  bits_after = costs (bits (unsigned_term o)) f

  rise_is : added (bits_rise (unsigned_term o) (unsigned_term x) (item more ∷ [])) (under l) ≡ Ok (rise ∷ [])
  rise_is =
      let d = x_less_y x o in
      let d_two = two_difference qx qy qx_one qy_one in
      let a = once_known l more d more_there (two_is_known d d_two) in
      rise_added (unsigned_term o) (unsigned_term x) (item more ∷ []) (under l) qy qx (once_of d) refl refl qy_one qx_one (one_combined l (item more) (once_of d) a)
      (found_equal (once_of d) d a.1.canonical d_two.canonical (λ g. once_reading g d))

  bit_items_hold : arithmetic_holds (kept_bit_items m) (under k6) bits_before bits_after ≡ Ok tt
  bit_items_hold =
      let one = λ (i : ℕ) (q : Polynomial) (h : at k6 (pos i) ≡ q) (y : IsTwo q). twice_gives k6 1 i (m + 7) (2 ^ 34) e q h cost_in_six (omega arith) (omega arith) tt (two_is_known q y) in
      let i = one m rise rise_in_six (two_difference bx by bx_one by_one) in
      let j = one (m + 2) mx_less number_in_six (two_difference (single mx) bx mx_one bx_one) in
      let k = one (m + 6) less_my left_in_six (two_difference by (single my) by_one my_one) in
      let s = small_single e tt in
      let p = term_of mx e in
      let q = term_of my e in
      let small_d = small_difference 1 1 1 1 2 p q (small_term mx e (small_single mx bx_one.canonical) s) (small_term my e (small_single my by_one.canonical) s) in
      let z = sum (sum (once_with e rise) (once_with e mx_less)) (once_with e less_my) in
      holds (kept_bit_items m) (under k6) bits_before bits_after p q z (costs_polynomial (bits (unsigned_term x)) f bx refl bx_one) (costs_polynomial (bits (unsigned_term o)) f by refl by_one)
      (three_combined k6 (pair m (m + 7)) (pair (m + 2) (m + 7)) (pair (m + 6) (m + 7)) (once_with e rise) (once_with e mx_less) (once_with e less_my) i j k)
      (no_limit 2 2 2 (lessened p 1 q 0) (omega arith) (omega arith) (omega arith) small_d)
      (found_equal z (lessened p 1 q 0) (small_three (once_with e rise) (once_with e mx_less) (once_with e less_my) i.1 j.1 k.1).canonical small_d.canonical (λ g. risen_kept bx by mx my e g))

  pub bits_kept_holds : fault (bits_kept_at m more f x o) ds (under l) bits_before bits_after ≡ None
  bits_kept_holds =
      let last = arithmetic (kept_bit_items m) in
      let sixth = fact (cost_range f) last in
      let fifth = fact (num_is (bits (unsigned_term o)) (item (m + 4) ∷ [])) sixth in
      let fourth = fact (bits_bound (unsigned_term o)) fifth in
      let third = fact (num_is (bits (unsigned_term x)) (item (m + 1) ∷ [])) fourth in
      let second = fact (bits_bound (unsigned_term x)) third in
      let b = two_long in
      let d = four_long in
      let g = six_long in
      fault_fact (bits_rise (unsigned_term o) (unsigned_term x) (item more ∷ [])) second ds (under l) bits_before bits_after (rise ∷ []) (one_counted more (length l) more_in) rise_is
      (fault_fact (bits_bound (unsigned_term x)) third ds (under k1) bits_before bits_after (bx ∷ []) refl refl
      (fault_fact (num_is (bits (unsigned_term x)) (item (m + 1) ∷ [])) fourth ds (under k2) bits_before bits_after (mx_less ∷ less_mx ∷ []) (one_counted (m + 1) (length k2) (omega (arith, b))) (number_added (bits (unsigned_term x)) (under k2) (m + 1) bx refl bx_one bits_in_two)
      (fault_fact (bits_bound (unsigned_term o)) fifth ds (under k3) bits_before bits_after (by ∷ []) refl refl
      (fault_fact (num_is (bits (unsigned_term o)) (item (m + 4) ∷ [])) sixth ds (under k4) bits_before bits_after (my_less ∷ less_my ∷ []) (one_counted (m + 4) (length k4) (omega (arith, d))) (number_added (bits (unsigned_term o)) (under k4) (m + 4) by refl by_one bits_in_four)
      (fault_fact (cost_range f) last ds (under k5) bits_before bits_after (single e ∷ []) refl refl
      (fault_arithmetic (kept_bit_items m) ds (under k6) bits_before bits_after
      (pairs_counted m (m + 2) (m + 6) (m + 7) (length k6) (omega (arith, g)) (omega (arith, g)) (omega (arith, g)) (omega (arith, g)))
      bit_items_hold))))))
