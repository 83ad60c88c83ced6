-- What facts add, and what combinations are, for small polynomials.
use Rattle.std.proofs.Common.{◌≡◌, ◌≤◌, ◌+◌, ◌*◌, ◌^◌, ◌-◌, ℕ, refl, ap, ◌∙◌, arith, Bool, true, List, [], ◌∷◌, Result, Ok}
use Rattle.std.specs.Prelude.{pos, ◌&&◌}
use Rattle.qs_base.specs.Results.{bind, require}
use Rattle.qs_assert.specs.declared.variable.NumberType.TheVariants as numbers
use Rattle.qs_assert.specs.declared.variable.Var.{Var}
use Rattle.qs_assert.specs.declared.variable.VarKind.{VarKind}
use Rattle.qs_assert.specs.Trees.{TermTree, num}
use Rattle.qs_assert.specs.Trees as assertion
use Rattle.qs_poly.specs.Polynomials as poly
use Rattle.qs_poly.specs.Polynomials.{AtomTree, Polynomial, nothing}
use Rattle.qs_poly.specs.Canonical.{IsCanonicalAtom}
use Rattle.qs_poly.specs.Operations.{sum, multiple, product, number, lessened, single}
use Rattle.qs_poly.specs.Terms.{polynomial_eq}
use Rattle.qs_entail.specs.Building.{Stop, Two, breaks, limits, limited, difference, term_polynomial, at, item_polynomial, item_polynomials, sum_all, combination, two_combinations}
use Rattle.qs_entail.specs.Certificates.{Item, once, twice, range, num_is, wrapu_is}
use Rattle.qs_entail.specs.Facts.{added}
use Rattle.qs_entail.specs.Pushing.{Known}
use Rattle.qs_recur.proofs.Smallness.{Small, small_more, small_sum, small_multiple, small_number, small_single, small_product, small_difference, within_limits}
use Rattle.qs_recur.proofs.StepLaws.{bound, one_item, one_sum}

-- ---- small polynomials pass no limit

pub no_limit : (n b d : ℕ) (p : Polynomial) → n ≤ 64 → b ≤ 2 ^ 56 → d ≤ 4 → Small n b d p → limited p ≡ Ok p
no_limit n b d p h i j x = ap limits (within_limits n b d p h i j x)

-- ---- one term, what is known, and an item

abbrev pub IsOne : Polynomial → Type 0
IsOne p = Small 1 (2 ^ 32) 1 p

abbrev pub IsTwo : Polynomial → Type 0
IsTwo p = Small 2 (2 ^ 33) 1 p

abbrev pub IsKnown : Polynomial → Type 0
IsKnown p = Small 4 (2 ^ 34) 1 p

abbrev pub IsItem : Polynomial → Type 0
IsItem p = Small 4 (2 ^ 34) 2 p

pub one_number : (k : ℕ) → k ≤ 2 ^ 32 → IsOne (number (pos k))
one_number k h = small_more 1 k 0 1 (2 ^ 32) 1 (number (pos k)) (omega arith) h (omega arith) (small_number (pos k))

pub one_single : (a : AtomTree) → IsCanonicalAtom a → IsOne (single a)
one_single a x = small_more 1 1 1 1 (2 ^ 32) 1 (single a) (omega arith) (omega arith) (omega arith) (small_single a x)

pub one_is_two : (p : Polynomial) → IsOne p → IsTwo p
one_is_two p x = small_more 1 (2 ^ 32) 1 2 (2 ^ 33) 1 p (omega arith) (omega arith) (omega arith) x

pub one_is_known : (p : Polynomial) → IsOne p → IsKnown p
one_is_known p x = small_more 1 (2 ^ 32) 1 4 (2 ^ 34) 1 p (omega arith) (omega arith) (omega arith) x

pub two_is_known : (p : Polynomial) → IsTwo p → IsKnown p
two_is_known p x = small_more 2 (2 ^ 33) 1 4 (2 ^ 34) 1 p (omega arith) (omega arith) (omega arith) x

pub two_difference : (p q : Polynomial) → IsOne p → IsOne q → IsTwo (lessened p 1 q 0)
two_difference p q x y = small_more 2 (2 ^ 33) 1 2 (2 ^ 33) 1 (lessened p 1 q 0) (omega arith) (omega arith) (omega arith) (small_difference 1 (2 ^ 32) 1 (2 ^ 32) 1 p q x y)

pub known_difference : (p q : Polynomial) → IsTwo p → IsTwo q → IsKnown (lessened p 1 q 0)
known_difference p q x y = small_more 4 (2 ^ 34) 1 4 (2 ^ 34) 1 (lessened p 1 q 0) (omega arith) (omega arith) (omega arith) (small_difference 2 (2 ^ 33) 2 (2 ^ 33) 1 p q x y)

pub difference_is : (p q : Polynomial) → IsTwo p → IsTwo q → difference p q ≡ Ok (lessened p 1 q 0)
difference_is p q x y = no_limit 4 (2 ^ 34) 1 (lessened p 1 q 0) (omega arith) (omega arith) (omega arith) (known_difference p q x y)

pub number_is : (k : ℕ) → k ≤ 2 ^ 32 → term_polynomial (assertion.number (pos k)) ≡ Ok (number (pos k))
number_is k h = no_limit 1 (2 ^ 32) 1 (number (pos k)) (omega arith) (omega arith) (omega arith) (one_number k h)

-- ---- facts

abbrev pub unsigned : VarKind → Var
unsigned k = record { kind = k; number = numbers.Unsigned }

abbrev pub x_of : VarKind → Polynomial
x_of k = single (poly.variable (unsigned k))

pub range_added :
    (x : VarKind) (k : Known) → added (range (unsigned x)) k ≡ Ok (lessened (x_of x) 1 (number (pos 0)) 0 ∷ lessened (number (pos (2 ^ 32 - 1))) 1 (x_of x) 0 ∷ [])
range_added x k =
    let i = one_is_two (x_of x) (one_single (poly.variable (unsigned x)) tt) in
    let m = number (pos (2 ^ 32 - 1)) in
    let a = lessened (x_of x) 1 (number (pos 0)) 0 in
    let b = lessened m 1 (x_of x) 0 in
    bound (difference (x_of x) (number (pos 0))) a (λ v. bind (difference m (x_of x)) (λ w. Ok (v ∷ w ∷ []))) (Ok (a ∷ b ∷ [])) (difference_is (x_of x) (number (pos 0)) i (one_is_two (number (pos 0)) (one_number 0 (omega arith))))
    (bound (difference m (x_of x)) b (λ w. Ok (a ∷ w ∷ [])) (Ok (a ∷ b ∷ [])) (difference_is m (x_of x) (one_is_two m (one_number (2 ^ 32 - 1) (omega arith))) i) refl)

pub num_added :
    (t : TermTree) (w : List Item) (k : Known) (p z : Polynomial) → term_polynomial t ≡ Ok p → IsOne p → combination w k.polynomials ≡ Ok z → polynomial_eq z p ≡ true
    → added (num_is t w) k ≡ Ok (lessened (single (poly.num p)) 1 p 0 ∷ lessened p 1 (single (poly.num p)) 0 ∷ [])
num_added t w k p z tp x c e =
    let n = single (poly.num p) in
    let i = one_is_two p x in
    let j = one_is_two n (one_single (poly.num p) x.canonical) in
    bound (term_polynomial t) p _ _ tp
    (bound (combination w k.polynomials) z _ _ c
    (bound (difference n p) (lessened n 1 p 0) _ _ (difference_is n p j i)
    (bound (difference p n) (lessened p 1 n 0) _ _ (difference_is p n i j)
    (ap (λ (b : Bool). require b breaks (Ok (lessened n 1 p 0 ∷ lessened p 1 n 0 ∷ []))) e))))

pub wrapu_added :
    (t : TermTree) (v w : List Item) (k : Known) (p y z : Polynomial) → term_polynomial t ≡ Ok p → IsTwo p
    → two_combinations v w k.polynomials ≡ Ok (record { first = y; second = z }) → polynomial_eq y p ≡ true → polynomial_eq z (lessened (number (pos (2 ^ 32 - 1))) 1 p 0) ≡ true
    → added (wrapu_is t v w) k ≡ Ok (lessened (single (poly.wrapu p)) 1 p 0 ∷ lessened p 1 (single (poly.wrapu p)) 0 ∷ [])
wrapu_added t v w k p y z tp i c e f =
    let m = number (pos (2 ^ 32 - 1)) in
    let n = single (poly.wrapu p) in
    let j = one_is_two n (one_single (poly.wrapu p) i.canonical) in
    bound (term_polynomial t) p _ _ tp
    (bound (difference m p) (lessened m 1 p 0) _ _ (difference_is m p (one_is_two m (one_number (2 ^ 32 - 1) (omega arith))) i)
    (bound (two_combinations v w k.polynomials) (record { first = y; second = z }) _ _ c
    (bound (difference n p) (lessened n 1 p 0) _ _ (difference_is n p j i)
    (bound (difference p n) (lessened p 1 n 0) _ _ (difference_is p n i j)
    (ap (λ (b : Bool). require (b && polynomial_eq z (lessened m 1 p 0)) breaks (Ok (lessened n 1 p 0 ∷ lessened p 1 n 0 ∷ []))) e
    ∙ ap (λ (b : Bool). require b breaks (Ok (lessened n 1 p 0 ∷ lessened p 1 n 0 ∷ []))) f)))))

-- ---- items

abbrev pub Gives : Item → List Polynomial → Polynomial → Type 0
Gives item l p = (item_polynomial item l ≡ Ok p) × IsItem p

item_limited : (p : Polynomial) → IsItem p → limited p ≡ Ok p
item_limited p x = no_limit 4 (2 ^ 34) 2 p (omega arith) (omega arith) (omega arith) x

-- c times a polynomial that is known
pub once_gives : (l : List Polynomial) (c i b : ℕ) (p : Polynomial) → at l (pos i) ≡ p → c * b ≤ 2 ^ 34 → Small 4 b 1 p → Gives (once c (pos i)) l (multiple (pos c) p)
once_gives l c i b p h s x =
    let y = small_more 4 (2 ^ 34) 1 4 (2 ^ 34) 2 (multiple (pos c) p) (omega arith) (omega arith) (omega arith) (small_multiple 4 b 1 (2 ^ 34) (pos c) p s x) in
    (ap (λ (q : Polynomial). limited (multiple (pos c) q)) h ∙ item_limited (multiple (pos c) p) y, y)

-- c times its product with a cost
pub twice_gives :
    (l : List Polynomial) (c i o b : ℕ) (a : AtomTree) (p : Polynomial) → at l (pos i) ≡ p → at l (pos o) ≡ single a → b ≤ 2 ^ 34 → c * b ≤ 2 ^ 34 → IsCanonicalAtom a → Small 4 b 1 p
    → Gives (twice c (pos i) (pos o)) l (multiple (pos c) (product p (single a)))
twice_gives l c i o b a p h j r s n x =
    let q = product p (single a) in
    let y = small_product 4 b 1 a p n x in
    let z = small_multiple 4 b 2 (2 ^ 34) (pos c) q s y in (
      ap (λ (u : Polynomial). bind (limited (product u (at l (pos o)))) (λ r. limited (multiple (pos c) r))) h
          ∙ ap (λ (u : Polynomial). bind (limited (product p u)) (λ r. limited (multiple (pos c) r))) j
          ∙ ap (λ (u : Result Polynomial Stop). bind u (λ r. limited (multiple (pos c) r))) (no_limit 4 b 2 q (omega arith) (omega arith) (omega arith) y)
          ∙ item_limited (multiple (pos c) q) z,
      z,
    )

-- ---- sums

pub sums_one : (p : Polynomial) → IsItem p → sum_all nothing (p ∷ []) ≡ Ok p
sums_one p x = one_sum nothing p [] (Ok p) (item_limited p x) refl

pub small_two : (p q : Polynomial) → IsItem p → IsItem q → Small 8 (2 ^ 35) 2 (sum p q)
small_two p q x y = small_more 8 (2 ^ 35) 2 8 (2 ^ 35) 2 (sum p q) (omega arith) (omega arith) (omega arith) (small_sum 4 (2 ^ 34) 4 (2 ^ 34) 2 p q x y)

pub small_three : (p q r : Polynomial) → IsItem p → IsItem q → IsItem r → Small 12 (2 ^ 36) 2 (sum (sum p q) r)
small_three p q r x y z =
    small_more 12 (2 ^ 35 + 2 ^ 34) 2 12 (2 ^ 36) 2 (sum (sum p q) r) (omega arith) (omega arith) (omega arith) (small_sum 8 (2 ^ 35) 4 (2 ^ 34) 2 (sum p q) r (small_two p q x y) z)

pub small_four : (p q r s : Polynomial) → IsItem p → IsItem q → IsItem r → IsItem s → Small 16 (2 ^ 37) 2 (sum (sum (sum p q) r) s)
small_four p q r s x y z u =
    small_more 16 (2 ^ 36 + 2 ^ 34) 2 16 (2 ^ 37) 2 (sum (sum (sum p q) r) s) (omega arith) (omega arith) (omega arith)
    (small_sum 12 (2 ^ 36) 4 (2 ^ 34) 2 (sum (sum p q) r) s (small_three p q r x y z) u)

pub small_five : (p q r s t : Polynomial) → IsItem p → IsItem q → IsItem r → IsItem s → IsItem t → Small 20 (2 ^ 38) 2 (sum (sum (sum (sum p q) r) s) t)
small_five p q r s t x y z u v =
    small_more 20 (2 ^ 37 + 2 ^ 34) 2 20 (2 ^ 38) 2 (sum (sum (sum (sum p q) r) s) t) (omega arith) (omega arith) (omega arith)
    (small_sum 16 (2 ^ 37) 4 (2 ^ 34) 2 (sum (sum (sum p q) r) s) t (small_four p q r s x y z u) v)

limited_two : (p q : Polynomial) → IsItem p → IsItem q → limited (sum p q) ≡ Ok (sum p q)
limited_two p q x y = no_limit 8 (2 ^ 35) 2 (sum p q) (omega arith) (omega arith) (omega arith) (small_two p q x y)

limited_three : (p q r : Polynomial) → IsItem p → IsItem q → IsItem r → limited (sum (sum p q) r) ≡ Ok (sum (sum p q) r)
limited_three p q r x y z = no_limit 12 (2 ^ 36) 2 (sum (sum p q) r) (omega arith) (omega arith) (omega arith) (small_three p q r x y z)

limited_four : (p q r s : Polynomial) → IsItem p → IsItem q → IsItem r → IsItem s → limited (sum (sum (sum p q) r) s) ≡ Ok (sum (sum (sum p q) r) s)
limited_four p q r s x y z u = no_limit 16 (2 ^ 37) 2 (sum (sum (sum p q) r) s) (omega arith) (omega arith) (omega arith) (small_four p q r s x y z u)

pub sums_two : (p q : Polynomial) → IsItem p → IsItem q → sum_all nothing (p ∷ q ∷ []) ≡ Ok (sum p q)
sums_two p q x y = one_sum nothing p (q ∷ []) (Ok (sum p q)) (item_limited p x) (one_sum p q [] (Ok (sum p q)) (limited_two p q x y) refl)

pub sums_three : (p q r : Polynomial) → IsItem p → IsItem q → IsItem r → sum_all nothing (p ∷ q ∷ r ∷ []) ≡ Ok (sum (sum p q) r)
sums_three p q r x y z =
    let w = sum (sum p q) r in
    one_sum nothing p (q ∷ r ∷ []) (Ok w) (item_limited p x) (one_sum p q (r ∷ []) (Ok w) (limited_two p q x y) (one_sum (sum p q) r [] (Ok w) (limited_three p q r x y z) refl))

pub sums_four : (p q r s : Polynomial) → IsItem p → IsItem q → IsItem r → IsItem s → sum_all nothing (p ∷ q ∷ r ∷ s ∷ []) ≡ Ok (sum (sum (sum p q) r) s)
sums_four p q r s x y z u =
    let w = sum (sum (sum p q) r) s in
    one_sum nothing p (q ∷ r ∷ s ∷ []) (Ok w) (item_limited p x)
    (one_sum p q (r ∷ s ∷ []) (Ok w) (limited_two p q x y)
    (one_sum (sum p q) r (s ∷ []) (Ok w) (limited_three p q r x y z) (one_sum (sum (sum p q) r) s [] (Ok w) (limited_four p q r s x y z u) refl)))

limited_five : (p q r s t : Polynomial) → IsItem p → IsItem q → IsItem r → IsItem s → IsItem t → limited (sum (sum (sum (sum p q) r) s) t) ≡ Ok (sum (sum (sum (sum p q) r) s) t)
limited_five p q r s t x y z u v = no_limit 20 (2 ^ 38) 2 (sum (sum (sum (sum p q) r) s) t) (omega arith) (omega arith) (omega arith) (small_five p q r s t x y z u v)

pub sums_five :
    (p q r s t : Polynomial) → IsItem p → IsItem q → IsItem r → IsItem s → IsItem t → sum_all nothing (p ∷ q ∷ r ∷ s ∷ t ∷ []) ≡ Ok (sum (sum (sum (sum p q) r) s) t)
sums_five p q r s t x y z u v =
    let w = sum (sum (sum (sum p q) r) s) t in
    one_sum nothing p (q ∷ r ∷ s ∷ t ∷ []) (Ok w) (item_limited p x)
    (one_sum p q (r ∷ s ∷ t ∷ []) (Ok w) (limited_two p q x y)
    (one_sum (sum p q) r (s ∷ t ∷ []) (Ok w) (limited_three p q r x y z)
    (one_sum (sum (sum p q) r) s (t ∷ []) (Ok w) (limited_four p q r s x y z u) (one_sum (sum (sum (sum p q) r) s) t [] (Ok w) (limited_five p q r s t x y z u v) refl))))

-- ---- combinations of one to five items

pub items_one : (l : List Polynomial) (i : Item) (p : Polynomial) → Gives i l p → item_polynomials (i ∷ []) l ≡ Ok (p ∷ [])
items_one l i p x = one_item i [] l p [] x.0 refl

pub items_two : (l : List Polynomial) (i j : Item) (p q : Polynomial) → Gives i l p → Gives j l q → item_polynomials (i ∷ j ∷ []) l ≡ Ok (p ∷ q ∷ [])
items_two l i j p q x y = one_item i (j ∷ []) l p (q ∷ []) x.0 (items_one l j q y)

pub items_three :
    (l : List Polynomial) (i j k : Item) (p q r : Polynomial) → Gives i l p → Gives j l q → Gives k l r → item_polynomials (i ∷ j ∷ k ∷ []) l ≡ Ok (p ∷ q ∷ r ∷ [])
items_three l i j k p q r x y z = one_item i (j ∷ k ∷ []) l p (q ∷ r ∷ []) x.0 (items_two l j k q r y z)

pub items_four :
    (l : List Polynomial) (i j k h : Item) (p q r s : Polynomial) → Gives i l p → Gives j l q → Gives k l r → Gives h l s → item_polynomials (i ∷ j ∷ k ∷ h ∷ []) l ≡ Ok (p ∷ q ∷ r ∷ s ∷ [])
items_four l i j k h p q r s x y z u = one_item i (j ∷ k ∷ h ∷ []) l p (q ∷ r ∷ s ∷ []) x.0 (items_three l j k h q r s y z u)

pub one_combined : (l : List Polynomial) (i : Item) (p : Polynomial) → Gives i l p → combination (i ∷ []) l ≡ Ok p
one_combined l i p x = bound (item_polynomials (i ∷ []) l) (p ∷ []) (λ ps. sum_all nothing ps) (Ok p) (items_one l i p x) (sums_one p x.1)

pub two_combined : (l : List Polynomial) (i j : Item) (p q : Polynomial) → Gives i l p → Gives j l q → combination (i ∷ j ∷ []) l ≡ Ok (sum p q)
two_combined l i j p q x y =
    bound (item_polynomials (i ∷ j ∷ []) l) (p ∷ q ∷ []) (λ ps. sum_all nothing ps) (Ok (sum p q)) (items_two l i j p q x y) (sums_two p q x.1 y.1)

pub three_combined :
    (l : List Polynomial) (i j k : Item) (p q r : Polynomial) → Gives i l p → Gives j l q → Gives k l r → combination (i ∷ j ∷ k ∷ []) l ≡ Ok (sum (sum p q) r)
three_combined l i j k p q r x y z =
    bound (item_polynomials (i ∷ j ∷ k ∷ []) l) (p ∷ q ∷ r ∷ []) (λ ps. sum_all nothing ps) (Ok (sum (sum p q) r)) (items_three l i j k p q r x y z) (sums_three p q r x.1 y.1 z.1)

pub four_combined :
    (l : List Polynomial) (i j k h : Item) (p q r s : Polynomial) → Gives i l p → Gives j l q → Gives k l r → Gives h l s
    → combination (i ∷ j ∷ k ∷ h ∷ []) l ≡ Ok (sum (sum (sum p q) r) s)
four_combined l i j k h p q r s x y z u =
    bound (item_polynomials (i ∷ j ∷ k ∷ h ∷ []) l) (p ∷ q ∷ r ∷ s ∷ []) (λ ps. sum_all nothing ps) (Ok (sum (sum (sum p q) r) s)) (items_four l i j k h p q r s x y z u)
    (sums_four p q r s x.1 y.1 z.1 u.1)

pub five_combined :
    (l : List Polynomial) (i j k h m : Item) (p q r s t : Polynomial) → Gives i l p → Gives j l q → Gives k l r → Gives h l s → Gives m l t
    → combination (i ∷ j ∷ k ∷ h ∷ m ∷ []) l ≡ Ok (sum (sum (sum (sum p q) r) s) t)
five_combined l i j k h m p q r s t x y z u v =
    bound (item_polynomials (i ∷ j ∷ k ∷ h ∷ m ∷ []) l) (p ∷ q ∷ r ∷ s ∷ t ∷ []) (λ ps. sum_all nothing ps) (Ok (sum (sum (sum (sum p q) r) s) t))
    (one_item i (j ∷ k ∷ h ∷ m ∷ []) l p (q ∷ r ∷ s ∷ t ∷ []) x.0 (items_four l j k h m q r s t y z u v)) (sums_five p q r s t x.1 y.1 z.1 u.1 v.1)

pub both_combined :
    (l : List Polynomial) (i j k h : Item) (p q r s : Polynomial) → Gives i l p → Gives j l q → Gives k l r → Gives h l s
    → two_combinations (i ∷ j ∷ []) (k ∷ h ∷ []) l ≡ Ok (record { first = sum p q; second = sum r s })
both_combined l i j k h p q r s x y z u =
    let done : Result Two Stop = Ok (record { first = sum p q; second = sum r s }) in
    bound (item_polynomials (i ∷ j ∷ []) l) (p ∷ q ∷ []) (λ ps. bind (item_polynomials (k ∷ h ∷ []) l) (λ qs. bind (sum_all nothing ps) (λ p. bind (sum_all nothing qs) (λ q. Ok (record { first = p; second = q })))))
    done (items_two l i j p q x y)
    (bound (item_polynomials (k ∷ h ∷ []) l) (r ∷ s ∷ []) (λ qs. bind (sum_all nothing (p ∷ q ∷ [])) (λ p. bind (sum_all nothing qs) (λ q. Ok (record { first = p; second = q }))))
    done (items_two l k h r s z u)
    (bound (sum_all nothing (p ∷ q ∷ [])) (sum p q) (λ v. bind (sum_all nothing (r ∷ s ∷ [])) (λ w. Ok (record { first = v; second = w })))
    done (sums_two p q x.1 y.1)
    (bound (sum_all nothing (r ∷ s ∷ [])) (sum r s) (λ v. Ok (record { first = sum p q; second = v })) done (sums_two r s z.1 u.1) refl)))
