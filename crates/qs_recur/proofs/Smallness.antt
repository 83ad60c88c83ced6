-- Small polynomials pass no limit: how many terms, how large the coefficients together, and what degree, at most.
use Rattle.std.proofs.Common.{◌≡◌, ◌≤◌, ◌+◌, ◌*◌, ◌^◌, ℕ, zero, suc, refl, sym, ap, ◌∙◌, subst, arith, Bool, true, Ok}
use Rattle.std.specs.Prelude.{ℤ, pos, negsuc, ◌+ℤ◌, ◌-ℤ◌, ◌*ℤ◌, ◌&&◌, nat_le, unsigned_abs}
use Rattle.std.proofs.Math.Nat.{mul-le-mul_left}
use Rattle.std.specs.declared.cmp.Ordering.{Ordering}
use Rattle.std.specs.declared.cmp.Ordering.TheVariants.{Less, Equal, Greater}
use Rattle.std.proofs.lemmas.Int.{ints, unsigned_abs-mul}
use Rattle.qs_base.specs.Results.{require}
use Rattle.qs_poly.specs.Polynomials.{AtomTree, Monomial, one, times, Polynomial, nothing, plus}
use Rattle.qs_poly.specs.Orders.{atom_cmp, monomial_cmp}
use Rattle.qs_poly.specs.Operations.{by_order, insert_atom, monomial_product, plus_unless_zero, insert_term, sum, multiple, add_product, product, number, lessened, single}
use Rattle.qs_poly.specs.Canonical.{IsCanonicalAtom, IsCanonical}
use Rattle.qs_poly.specs.Limits.{is_narrow, all_narrow, count_terms, degree, is_low, all_low, has_few_terms, within}
use Rattle.qs_poly.specs.declared.fault.PolyFault.TheVariants.{Wide, ManyTerms, HighDegree}
use Rattle.qs_poly.proofs.Bounds.{sum_at_most}
use Rattle.qs_poly.proofs.Coefficients.{sum_canonical, multiple_canonical, product_canonical, number_canonical, lessened_canonical}

-- the sum of the coefficients, each without its sign
abbrev pub weight : Polynomial → ℕ
weight nothing = 0
weight (plus c m p) = unsigned_abs c + weight p

abbrev pub IsLow : ℕ → Polynomial → Type 0
IsLow d nothing = Unit {0}
IsLow d (plus c m p) = (degree m ≤ d) × IsLow d p

pub record Small (n b d : ℕ) (p : Polynomial) : Type 0 where
  pub canonical : IsCanonical p
  pub few : count_terms p ≤ n
  pub light : weight p ≤ b
  pub low : IsLow d p

-- ---- one of three, by an order

by_order_all : {A : Type 0} (o : Ordering) (a b c : A) (Q : A → Type 0) → Q a → Q b → Q c → Q (by_order o a b c)
by_order_all Less a b c Q x y z = x
by_order_all Equal a b c Q x y z = y
by_order_all Greater a b c Q x y z = z

-- ---- counts

unless_count : (c : ℤ) (m : Monomial) (p : Polynomial) → count_terms (plus_unless_zero c m p) ≤ count_terms p + 1
unless_count (pos zero) m p = omega arith
unless_count (pos (suc n)) m p = omega arith
unless_count (negsuc n) m p = omega arith

insert_count : (c : ℤ) (m : Monomial) (p : Polynomial) → count_terms (insert_term c m p) ≤ count_terms p + 1
insert_count c m nothing = unless_count c m nothing
insert_count c m (plus d n p) =
    by_order_all (monomial_cmp m n) _ _ _ (λ q. count_terms q ≤ count_terms (plus d n p) + 1)
    (unless_count c m (plus d n p))
    (let h = unless_count (c +ℤ d) n p in omega arith)
    (let h = insert_count c m p in omega arith)

sum_count : (p q : Polynomial) → count_terms (sum p q) ≤ count_terms p + count_terms q
sum_count nothing q = omega arith
sum_count (plus c m p) q = let h = sum_count p (insert_term c m q) in let i = insert_count c m q in omega arith

multiple_count : (k : ℤ) (p : Polynomial) → count_terms (multiple k p) ≤ count_terms p
multiple_count k nothing = omega arith
multiple_count k (plus c m p) = let h = unless_count (k *ℤ c) m (multiple k p) in let i = multiple_count k p in omega arith

product_count : (a : AtomTree) (p q : Polynomial) → count_terms (add_product p (single a) q) ≤ count_terms p + count_terms q
product_count a nothing q = omega arith
product_count a (plus c m p) q =
    let n = monomial_product m (times a one) in
    let h = product_count a p (insert_term (c *ℤ pos 1) n q) in
    let i = insert_count (c *ℤ pos 1) n q in
    omega arith

-- ---- weights

unless_weight : (c : ℤ) (m : Monomial) (p : Polynomial) → weight (plus_unless_zero c m p) ≤ unsigned_abs c + weight p
unless_weight (pos zero) m p = omega arith
unless_weight (pos (suc n)) m p = omega arith
unless_weight (negsuc n) m p = omega arith

insert_weight : (c : ℤ) (m : Monomial) (p : Polynomial) → weight (insert_term c m p) ≤ unsigned_abs c + weight p
insert_weight c m nothing = unless_weight c m nothing
insert_weight c m (plus d n p) =
    by_order_all (monomial_cmp m n) _ _ _ (λ q. weight q ≤ unsigned_abs c + weight (plus d n p))
    (unless_weight c m (plus d n p))
    (let h = unless_weight (c +ℤ d) n p in let s = sum_at_most c d in omega arith)
    (let h = insert_weight c m p in omega arith)

sum_weight : (p q : Polynomial) → weight (sum p q) ≤ weight p + weight q
sum_weight nothing q = omega arith
sum_weight (plus c m p) q = let h = sum_weight p (insert_term c m q) in let i = insert_weight c m q in omega arith

multiple_weight : (k : ℤ) (p : Polynomial) → weight (multiple k p) ≤ unsigned_abs k * weight p
multiple_weight k nothing = omega arith
multiple_weight k (plus c m p) =
    let h = unless_weight (k *ℤ c) m (multiple k p) in
    let i = multiple_weight k p in
    let e = unsigned_abs-mul k c in
    omega (arith, h, i, e)

same_size : (c : ℤ) → unsigned_abs (c *ℤ pos 1) ≤ unsigned_abs c
same_size c = omega (arith, ints)

product_weight : (a : AtomTree) (p q : Polynomial) → weight (add_product p (single a) q) ≤ weight p + weight q
product_weight a nothing q = omega arith
product_weight a (plus c m p) q =
    let n = monomial_product m (times a one) in
    let h = product_weight a p (insert_term (c *ℤ pos 1) n q) in
    let i = insert_weight (c *ℤ pos 1) n q in
    let s = same_size c in
    omega arith

-- ---- degrees

low_more : (d e : ℕ) (p : Polynomial) → d ≤ e → IsLow d p → IsLow e p
low_more d e nothing h x = tt
low_more d e (plus c m p) h x = (let y = x.0 in omega arith, low_more d e p h x.1)

unless_low : (d : ℕ) (c : ℤ) (m : Monomial) (p : Polynomial) → degree m ≤ d → IsLow d p → IsLow d (plus_unless_zero c m p)
unless_low d (pos zero) m p h x = x
unless_low d (pos (suc n)) m p h x = (h, x)
unless_low d (negsuc n) m p h x = (h, x)

insert_low : (d : ℕ) (c : ℤ) (m : Monomial) (p : Polynomial) → degree m ≤ d → IsLow d p → IsLow d (insert_term c m p)
insert_low d c m nothing h x = unless_low d c m nothing h tt
insert_low d c m (plus e n p) h x =
    by_order_all (monomial_cmp m n) _ _ _ (IsLow d) (unless_low d c m (plus e n p) h x) (unless_low d (c +ℤ e) n p x.0 x.1) (x.0, insert_low d c m p h x.1)

sum_low : (d : ℕ) (p q : Polynomial) → IsLow d p → IsLow d q → IsLow d (sum p q)
sum_low d nothing q x y = y
sum_low d (plus c m p) q x y = sum_low d p (insert_term c m q) x.1 (insert_low d c m q x.0 y)

multiple_low : (d : ℕ) (k : ℤ) (p : Polynomial) → IsLow d p → IsLow d (multiple k p)
multiple_low d k nothing x = tt
multiple_low d k (plus c m p) x = unless_low d (k *ℤ c) m (multiple k p) x.0 (multiple_low d k p x.1)

insert_degree : (a : AtomTree) (m : Monomial) → degree (insert_atom a m) ≡ degree m + 1
insert_degree a one = refl
insert_degree a (times b m) =
    by_order_all (atom_cmp a b) _ _ _ (λ n. degree n ≡ degree (times b m) + 1) refl refl (ap (λ (n : ℕ). n + 1) (insert_degree a m))

product_degree : (m n : Monomial) → degree (monomial_product m n) ≡ degree m + degree n
product_degree one n = omega arith
product_degree (times a m) n = let h = product_degree m (insert_atom a n) in let i = insert_degree a n in omega arith

product_low : (d : ℕ) (a : AtomTree) (p q : Polynomial) → IsLow d p → IsLow (d + 1) q → IsLow (d + 1) (add_product p (single a) q)
product_low d a nothing q x y = y
product_low d a (plus c m p) q x y =
    let n = monomial_product m (times a one) in
    let e = product_degree m (times a one) in
    let l = x.0 in
    product_low d a p (insert_term (c *ℤ pos 1) n q) x.1 (insert_low (d + 1) (c *ℤ pos 1) n q (omega arith) y)

-- ---- small polynomials

pub small_more : (n b d m c e : ℕ) (p : Polynomial) → n ≤ m → b ≤ c → d ≤ e → Small n b d p → Small m c e p
small_more n b d m c e p h i j x =
    let few = x.few in
    let light = x.light in
    record { canonical = x.canonical; few = omega arith; light = omega arith; low = low_more d e p j x.low }

pub small_sum : (n b m c d : ℕ) (p q : Polynomial) → Small n b d p → Small m c d q → Small (n + m) (b + c) d (sum p q)
small_sum n b m c d p q x y =
    let f = x.few in
    let g = y.few in
    let l = x.light in
    let k = y.light in
    let s = sum_count p q in
    let t = sum_weight p q in
    record { canonical = sum_canonical p q x.canonical y.canonical; few = omega arith; light = omega arith; low = sum_low d p q x.low y.low }

pub small_multiple : (n b d c : ℕ) (k : ℤ) (p : Polynomial) → unsigned_abs k * b ≤ c → Small n b d p → Small n c d (multiple k p)
small_multiple n b d c k p h x =
    let f = x.few in
    let s = multiple_count k p in
    let t = multiple_weight k p in
    let u : unsigned_abs k * weight p ≤ unsigned_abs k * b = mul-le-mul_left (unsigned_abs k) x.light in
    record { canonical = multiple_canonical k p x.canonical; few = omega arith; light = omega arith; low = multiple_low d k p x.low }

pub small_number : (k : ℤ) → Small 1 (unsigned_abs k) 0 (number k)
small_number k =
    let t = unless_weight k one nothing in
    record { canonical = number_canonical k; few = unless_count k one nothing; light = omega arith; low = unless_low 0 k one nothing (omega arith) tt }

pub small_single : (a : AtomTree) → IsCanonicalAtom a → Small 1 1 1 (single a)
small_single a x = record { canonical = ((λ e. cc), (x, tt, tt), tt, tt); few = omega arith; light = omega arith; low = (omega arith, tt) }

pub small_product : (n b d : ℕ) (a : AtomTree) (p : Polynomial) → IsCanonicalAtom a → Small n b d p → Small n b (d + 1) (product p (single a))
small_product n b d a p i x =
    let f = x.few in
    let l = x.light in
    let s = product_count a p nothing in
    let t = product_weight a p nothing in
    record { canonical = product_canonical p (single a) x.canonical (small_single a i).canonical; few = omega arith; light = omega arith; low = product_low d a p nothing x.low tt }

pub small_difference : (n b m c d : ℕ) (p q : Polynomial) → Small n b d p → Small m c d q → Small (n + m) (b + c) d (lessened p 1 q 0)
small_difference n b m c d p q x y =
    let z = small_sum n b m c d p (multiple (pos 0 -ℤ pos 1) q) x (small_multiple m c d c (pos 0 -ℤ pos 1) q (omega (arith, ints)) y) in
    let f = z.few in
    let l = z.light in
    let s = sum_count (sum p (multiple (pos 0 -ℤ pos 1) q)) nothing in
    let t = sum_weight (sum p (multiple (pos 0 -ℤ pos 1) q)) nothing in
    record { canonical = lessened_canonical p 1 q 0 x.canonical y.canonical; few = omega arith; light = omega arith; low = sum_low d (sum p (multiple (pos 0 -ℤ pos 1) q)) nothing z.low tt }

pub small_one_less : (n b m c d : ℕ) (p q : Polynomial) → Small n b d p → Small m c d q → Small (n + m + 1) (b + c + 1) d (lessened p 1 q 1)
small_one_less n b m c d p q x y =
    let z = small_sum n b m c d p (multiple (pos 0 -ℤ pos 1) q) x (small_multiple m c d c (pos 0 -ℤ pos 1) q (omega (arith, ints)) y) in
    small_sum (n + m) (b + c) 1 1 d (sum p (multiple (pos 0 -ℤ pos 1) q)) (number (pos 0 -ℤ pos 1)) z (small_more 1 1 0 1 1 d (number (pos 0 -ℤ pos 1)) (omega arith) (omega arith) (omega arith) (small_number (pos 0 -ℤ pos 1)))

pub small_lessened : (n b m e c d k : ℕ) (p q : Polynomial) → k * b ≤ e → Small n c d p → Small m b d q → (i : ℕ) → Small (n + m + 1) (c + e + i) d (lessened p k q i)
small_lessened n b m e c d k p q h x y i =
    let z = small_sum n c m e d p (multiple (pos 0 -ℤ pos k) q) x (small_multiple m b d e (pos 0 -ℤ pos k) q (subst (λ (s : ℕ). s * b ≤ e) (sym (sizes k)) h) y) in
    small_sum (n + m) (c + e) 1 i d (sum p (multiple (pos 0 -ℤ pos k) q)) (number (pos 0 -ℤ pos i)) z
    (small_more 1 (unsigned_abs (pos 0 -ℤ pos i)) 0 1 i d (number (pos 0 -ℤ pos i)) (omega arith) (omega (arith, ints, sizes i)) (omega arith) (small_number (pos 0 -ℤ pos i)))
  where
    sizes : (k : ℕ) → unsigned_abs (pos 0 -ℤ pos k) ≡ k
    sizes k = omega (arith, ints)

-- ---- they pass no limit

at_most : (m n : ℕ) → m ≤ n → nat_le m n ≡ true
at_most m n h = grind arith

and_true : (a b : Bool) → a ≡ true → b ≡ true → (a && b) ≡ true
and_true a b h k = ap (λ (x : Bool). x && b) h ∙ k

all_are_narrow : (p : Polynomial) → weight p ≤ 2 ^ 56 → all_narrow p ≡ true
all_are_narrow nothing h = refl
all_are_narrow (plus c m p) h = and_true (is_narrow c) (all_narrow p) (at_most (unsigned_abs c) (2 ^ 56) (omega arith)) (all_are_narrow p (omega arith))

all_are_low : (p : Polynomial) → IsLow 4 p → all_low p ≡ true
all_are_low nothing x = refl
all_are_low (plus c m p) x = and_true (is_low m) (all_low p) (at_most (degree m) 4 x.0) (all_are_low p x.1)

pub within_limits : (n b d : ℕ) (p : Polynomial) → n ≤ 64 → b ≤ 2 ^ 56 → d ≤ 4 → Small n b d p → within p ≡ Ok p
within_limits n b d p h i j x =
    let f = x.few in
    let l = x.light in
    ap (λ (v : Bool). (require v Wide (require (has_few_terms p) ManyTerms (require (all_low p) HighDegree (Ok p))))) (all_are_narrow p (omega arith))
    ∙ ap (λ (v : Bool). (require v ManyTerms (require (all_low p) HighDegree (Ok p)))) (at_most (count_terms p) 64 (omega arith))
    ∙ ap (λ (v : Bool). (require v HighDegree (Ok p))) (all_are_low p (low_more d 4 p j x.low))
