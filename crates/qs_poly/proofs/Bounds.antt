-- Coefficients stay small.
use Rattle.std.proofs.Common.{◌≡◌, ◌≤◌, ◌<◌, ◌+◌, ◌*◌, ◌^◌, ℕ, zero, suc, List, [], ◌∷◌, get_or, length, sym, subst, arith}
use Rattle.std.specs.Prelude.{ℤ, pos, negsuc, ◌+ℤ◌, ◌*ℤ◌, unsigned_abs, FitsSigned}
use Rattle.std.proofs.Math.Nat.{mul-le-mul_left, mul-le-mul_right}
use Rattle.std.specs.Int.{w128}
use Rattle.std.proofs.lemmas.Int.{ints, fits_signed_from_abs, unsigned_abs-mul}
use Rattle.std.specs.declared.cmp.Ordering.{Ordering}
use Rattle.std.specs.declared.cmp.Ordering.TheVariants.{Less, Equal, Greater}
use Rattle.qs_poly.specs.Polynomials.{Monomial, Polynomial, nothing, plus}
use Rattle.qs_poly.specs.Orders.{monomial_cmp}
use Rattle.qs_poly.specs.Operations.{by_order, plus_unless_zero, insert_term, sum, multiple, monomial_product, add_term_product}
use Rattle.qs_poly.specs.declared.terms.Term.{Term}
use Rattle.qs_poly.specs.Terms.{sum_of, AllAtMost}

pub sum_at_most : (a b : ℤ) → unsigned_abs (a +ℤ b) ≤ unsigned_abs a + unsigned_abs b
sum_at_most a b = omega (arith, ints)

pub at_most_more : (b c : ℕ) (p : Polynomial) → b ≤ c → AllAtMost b p → AllAtMost c p
at_most_more b c nothing h x = tt
at_most_more b c (plus d m p) h x = (let y = x.0 in omega arith, at_most_more b c p h x.1)

unless_at_most : (b : ℕ) (c : ℤ) (m : Monomial) (p : Polynomial) → unsigned_abs c ≤ b → AllAtMost b p → AllAtMost b (plus_unless_zero c m p)
unless_at_most b (pos zero) m p h x = x
unless_at_most b (pos (suc n)) m p h x = (h, x)
unless_at_most b (negsuc n) m p h x = (h, x)

by_order_all : {A : Type 0} (o : Ordering) (a b c : A) (Q : A → Type 0) → Q a → Q b → Q c → Q (by_order o a b c)
by_order_all Less a b c Q x y z = x
by_order_all Equal a b c Q x y z = y
by_order_all Greater a b c Q x y z = z

pub insert_at_most : (b e : ℕ) (c : ℤ) (m : Monomial) (p : Polynomial) → unsigned_abs c ≤ e → AllAtMost b p → AllAtMost (b + e) (insert_term c m p)
insert_at_most b e c m nothing h x = unless_at_most (b + e) c m nothing (omega arith) tt
insert_at_most b e c m (plus d n p) h x =
    by_order_all (monomial_cmp m n) _ _ _ (AllAtMost (b + e))
    (unless_at_most (b + e) c m (plus d n p) (omega arith) (let y = x.0 in omega arith, at_most_more b (b + e) p (omega arith) x.1))
    (unless_at_most (b + e) (c +ℤ d) n p (let y = x.0 in let s = sum_at_most c d in omega arith) (at_most_more b (b + e) p (omega arith) x.1))
    (let y = x.0 in omega arith, insert_at_most b e c m p h x.1)

pub sum_terms_at_most : (b e : ℕ) (xs : List Term) (p : Polynomial) → AllAtMost e (sum_of xs) → AllAtMost b p → AllAtMost (b + length xs * e) (sum (sum_of xs) p)
sum_terms_at_most b e [] p x y = at_most_more b (b + length {A = Term} [] * e) p (omega arith) y
sum_terms_at_most b e (t ∷ ts) p x y =
    let z = sum_terms_at_most (b + e) e ts (insert_term t.coefficient t.monomial p) x.1 (insert_at_most b e t.coefficient t.monomial p x.0 y) in
    at_most_more (b + e + length ts * e) (b + length (t ∷ ts) * e) _ (omega arith) z

pub item_at_most : (b : ℕ) (xs : List Term) (i : ℕ) (d : Term) → i < length xs → d ≡ get_or xs i d → AllAtMost b (sum_of xs) → unsigned_abs d.coefficient ≤ b
item_at_most b [] i d lt e x = absurd (omega arith)
item_at_most b (y ∷ ys) zero d lt e x = subst (λ (t : Term). unsigned_abs t.coefficient ≤ b) (sym e) x.0
item_at_most b (y ∷ ys) (suc i) d lt e x = item_at_most b ys i d (omega arith) e x.1

pub sum_fits : (b e : ℕ) (a d : ℤ) → unsigned_abs a ≤ b → unsigned_abs d ≤ e → b + e < 2 ^ 127 → FitsSigned w128 (a +ℤ d)
sum_fits b e a d h k l = let s = sum_at_most a d in fits_signed_from_abs w128 (a +ℤ d) (omega arith)

-- ---- products

pub product_at_most : (m n : ℕ) (a b : ℤ) → unsigned_abs a ≤ m → unsigned_abs b ≤ n → unsigned_abs (a *ℤ b) ≤ m * n
product_at_most m n a b h k =
    let e = unsigned_abs-mul a b in
    let x : unsigned_abs a * unsigned_abs b ≤ m * unsigned_abs b = mul-le-mul_right (unsigned_abs b) h in
    let y : m * unsigned_abs b ≤ m * n = mul-le-mul_left m k in
    omega arith

pub multiple_at_most : (m n : ℕ) (k : ℤ) (p : Polynomial) → unsigned_abs k ≤ m → AllAtMost n p → AllAtMost (m * n) (multiple k p)
multiple_at_most m n k nothing h x = tt
multiple_at_most m n k (plus c d p) h x = unless_at_most (m * n) (k *ℤ c) d (multiple k p) (product_at_most m n k c h x.0) (multiple_at_most m n k p h x.1)

pub product_fits : (a b : ℤ) → unsigned_abs a ≤ 2 ^ 64 → unsigned_abs b ≤ 2 ^ 56 → FitsSigned w128 (a *ℤ b)
product_fits a b h k = let e = product_at_most (2 ^ 64) (2 ^ 56) a b h k in fits_signed_from_abs w128 (a *ℤ b) (omega arith)

pub term_product_at_most : (b : ℕ) (c : ℤ) (m : Monomial) (xs : List Term) (p : Polynomial) → unsigned_abs c ≤ 2 ^ 56 → AllAtMost (2 ^ 56) (sum_of xs) → AllAtMost b p → AllAtMost (b + length xs * 2 ^ 112) (add_term_product c m (sum_of xs) p)
term_product_at_most b c m [] p h x y = at_most_more b (b + length {A = Term} [] * 2 ^ 112) p (omega arith) y
term_product_at_most b c m (t ∷ ts) p h x y =
    let e : unsigned_abs (c *ℤ t.coefficient) ≤ 2 ^ 112 = product_at_most (2 ^ 56) (2 ^ 56) c t.coefficient h x.0 in
    let z = term_product_at_most (b + 2 ^ 112) c m ts (insert_term (c *ℤ t.coefficient) (monomial_product m t.monomial) p) h x.1 (insert_at_most b (2 ^ 112) (c *ℤ t.coefficient) (monomial_product m t.monomial) p e y) in
    at_most_more (b + 2 ^ 112 + length ts * 2 ^ 112) (b + length (t ∷ ts) * 2 ^ 112) _ (omega arith) z
