-- The operations have the coefficients that they should, and keep the canonical form; canonical
-- polynomials with equal coefficients are equal.
use Rattle.std.proofs.Common.{◌≡◌, zero, suc, refl, sym, ap, ◌∙◌, arith, false}
use Rattle.std.specs.Prelude.{ℕ, ℤ, pos, negsuc, ◌+ℤ◌, ◌-ℤ◌, ◌*ℤ◌}
use Rattle.std.specs.declared.cmp.Ordering.{Ordering}
use Rattle.std.specs.declared.cmp.Ordering.TheVariants.{Less, Equal, Greater}
use Rattle.std.specs.Ordering.{is_gt}
use Rattle.std.proofs.lemmas.Int.{ints}
use Rattle.std.proofs.lemmas.Cmp.{upto}
use Rattle.qs_poly.specs.Polynomials.{AtomTree, Monomial, one, times, Polynomial, nothing, plus}
use Rattle.qs_poly.specs.Orders.{atom_cmp, monomial_cmp, atom_cmp_total, monomial_cmp_total}
use Rattle.qs_poly.specs.Operations.{by_order, insert_atom, monomial_product, plus_unless_zero, insert_term, sum, multiple, add_term_product, add_product, product, number, lessened}
use Rattle.qs_poly.specs.Canonical.{where_same, coefficient, term_product_coefficient, product_coefficient, NotBefore, IsBefore, IsCanonicalAtom, IsCanonicalMonomial, IsCanonical}
use Rattle.qs_poly.proofs.Ring.{add_mul}
use Rattle.qs_poly.proofs.Order.{monomial_equal, monomial_less, monomial_itself, atom_not_after}

-- ---- one of three, by an order

pub order_by : {A B : Type 0} (o : Ordering) (a b c : A) (f : A → B) (v : B) → (o ≡ Less → f a ≡ v) → (o ≡ Equal → f b ≡ v) → (o ≡ Greater → f c ≡ v) → f (by_order o a b c) ≡ v
order_by Less a b c f v x y z = x refl
order_by Equal a b c f v x y z = y refl
order_by Greater a b c f v x y z = z refl

ordered : {A : Type 0} (o : Ordering) (a b c : A) (P : A → Type 0) → (o ≡ Less → P a) → (o ≡ Equal → P b) → (o ≡ Greater → P c) → P (by_order o a b c)
ordered Less a b c P x y z = x refl
ordered Equal a b c P x y z = y refl
ordered Greater a b c P x y z = z refl

-- ---- uniqueness

before_before : (m n : Monomial) (p : Polynomial) → monomial_cmp m n ≡ Less → IsBefore n p → IsBefore m p
before_before m n nothing h b = tt
before_before m n (plus d k p) h b = (monomial_cmp_total.trans m n k h b.0, before_before m n p h b.1)

zero_at : (o : Ordering) (c : ℤ) → o ≡ Less → by_order o (pos 0) c (pos 0) ≡ pos 0
zero_at o c h = ap (λ o. by_order o (pos 0) c (pos 0)) h

-- a monomial before all has no coefficient
before_none : (m : Monomial) (p : Polynomial) → IsBefore m p → coefficient p m ≡ pos 0
before_none m nothing b = refl
before_none m (plus d n p) b =
    let e = zero_at (monomial_cmp m n) d b.0 in
    let f = before_none m p b.1 in
    omega (arith, ints, e, f)

own_coefficient : (c : ℤ) (m : Monomial) (p : Polynomial) → IsBefore m p → coefficient (plus c m p) m ≡ c
own_coefficient c m p b =
    let e : where_same m m c ≡ c = ap (λ o. by_order o (pos 0) c (pos 0)) (monomial_itself m) in
    let f = before_none m p b in
    omega (arith, ints, e, f)

abbrev SameCoefficients : Polynomial → Polynomial → Type 0
SameCoefficients p q = (k : Monomial) → IsCanonicalMonomial k → coefficient p k ≡ coefficient q k

unique_at : (o : Ordering) (c d : ℤ) (m n : Monomial) (p q : Polynomial) → IsCanonical (plus c m p) → IsCanonical (plus d n q) → SameCoefficients (plus c m p) (plus d n q) → monomial_cmp m n ≡ o → (SameCoefficients p q → p ≡ q) → plus c m p ≡ plus d n q
unique_at Less c d m n p q x y h e next =
    absurd (x.0 (sym (own_coefficient c m p x.2) ∙ h m x.1 ∙ before_none m (plus d n q) (e, before_before m n q e y.2)))
unique_at Greater c d m n p q x y h e next =
    let t = monomial_less m n e in
    absurd (y.0 (sym (own_coefficient d n q y.2) ∙ sym (h n y.1) ∙ before_none n (plus c m p) (t, before_before n m p t x.2)))
unique_at Equal c d m n p q x y h e next =
    let i = monomial_equal m n e in
    let j : c ≡ d = sym (own_coefficient c m p x.2) ∙ h m x.1 ∙ ap (λ k. coefficient (plus d n q) k) i ∙ own_coefficient d n q y.2 in
    let r = next (λ k s.
    let a = h k s in
    let b : where_same k m c ≡ where_same k n d = ap (λ z. where_same k z c) i ∙ ap (λ z. where_same k n z) j in
    tail (where_same k m c) (where_same k n d) (coefficient p k) (coefficient q k) a b) in
    ap (λ z. plus z m p) j ∙ ap (λ z. plus d z p) i ∙ ap (λ z. plus d n z) r
  where
    tail : (a b x y : ℤ) → a +ℤ x ≡ b +ℤ y → a ≡ b → x ≡ y
    tail a b x y h e = omega (arith, ints, h, e)

-- canonical polynomials with equal coefficients are equal
pub unique : (p q : Polynomial) → IsCanonical p → IsCanonical q → ((k : Monomial) → IsCanonicalMonomial k → coefficient p k ≡ coefficient q k) → p ≡ q
unique nothing nothing c d h = refl
unique nothing (plus d n q) c e h = absurd (e.0 (sym (own_coefficient d n q e.2) ∙ sym (h n e.1)))
unique (plus c m p) nothing d e h = absurd (d.0 (sym (own_coefficient c m p d.2) ∙ h m d.1))
unique (plus c m p) (plus d n q) x y h = unique_at (monomial_cmp m n) c d m n p q x y h refl (unique p q x.3 y.3)

-- ---- coefficients of the operations

zero_where : (o : Ordering) (z : ℤ) → z ≡ by_order o (pos 0) (pos 0) (pos 0) +ℤ z
zero_where Less z = omega (arith, ints)
zero_where Equal z = omega (arith, ints)
zero_where Greater z = omega (arith, ints)

unless_coefficient : (c : ℤ) (m : Monomial) (p : Polynomial) (k : Monomial) → coefficient (plus_unless_zero c m p) k ≡ where_same k m c +ℤ coefficient p k
unless_coefficient (pos zero) m p k = zero_where (monomial_cmp k m) (coefficient p k)
unless_coefficient (pos (suc n)) m p k = refl
unless_coefficient (negsuc n) m p k = refl

both_where : (o : Ordering) (c d : ℤ) → by_order o (pos 0) (c +ℤ d) (pos 0) ≡ by_order o (pos 0) c (pos 0) +ℤ by_order o (pos 0) d (pos 0)
both_where Less c d = omega (arith, ints)
both_where Equal c d = refl
both_where Greater c d = omega (arith, ints)

pub insert_coefficient : (c : ℤ) (m : Monomial) (p : Polynomial) (k : Monomial) → coefficient (insert_term c m p) k ≡ where_same k m c +ℤ coefficient p k
insert_coefficient c m nothing k = unless_coefficient c m nothing k
insert_coefficient c m (plus d n p) k =
    order_by (monomial_cmp m n) _ _ _ (λ q. coefficient q k) _
    (λ _. unless_coefficient c m (plus d n p) k)
    (λ e.
    let s = monomial_equal m n e in
    let t = unless_coefficient (c +ℤ d) n p k in
    let u = both_where (monomial_cmp k n) c d in
    let v = ap (λ x. where_same k x c) s in
    omega (arith, ints, t, u, v))
    (λ _. let h = insert_coefficient c m p k in omega (arith, ints, h))

-- the sum's coefficients are the sums of the coefficients
pub sum_coefficient : (p q : Polynomial) (k : Monomial) → coefficient (sum p q) k ≡ coefficient p k +ℤ coefficient q k
sum_coefficient nothing q k = omega (arith, ints)
sum_coefficient (plus c m p) q k =
    let h = insert_coefficient c m q k in
    let e = sum_coefficient p (insert_term c m q) k in
    omega (arith, ints, h, e)

times_where : (o : Ordering) (k c : ℤ) → by_order o (pos 0) (k *ℤ c) (pos 0) ≡ k *ℤ by_order o (pos 0) c (pos 0)
times_where Less k c = omega (arith, ints)
times_where Equal k c = refl
times_where Greater k c = omega (arith, ints)

-- a multiple's coefficients are the multiples of the coefficients
pub multiple_coefficient : (k : ℤ) (p : Polynomial) (m : Monomial) → coefficient (multiple k p) m ≡ k *ℤ coefficient p m
multiple_coefficient k nothing m = omega (arith, ints)
multiple_coefficient k (plus c n p) m =
    let t = unless_coefficient (k *ℤ c) n (multiple k p) m in
    let h = multiple_coefficient k p m in
    let w = times_where (monomial_cmp m n) k c in
    let a = add_mul k (where_same m n c) (coefficient p m) in
    omega (arith, ints, t, h, w, a)

term_product_adds : (c : ℤ) (m : Monomial) (q so_far : Polynomial) (k : Monomial) → coefficient (add_term_product c m q so_far) k ≡ term_product_coefficient c m q k +ℤ coefficient so_far k
term_product_adds c m nothing so_far k = omega (arith, ints)
term_product_adds c m (plus d n q) so_far k =
    let h = insert_coefficient (c *ℤ d) (monomial_product m n) so_far k in
    let e = term_product_adds c m q (insert_term (c *ℤ d) (monomial_product m n) so_far) k in
    omega (arith, ints, h, e)

product_adds : (p q so_far : Polynomial) (k : Monomial) → coefficient (add_product p q so_far) k ≡ product_coefficient p q k +ℤ coefficient so_far k
product_adds nothing q so_far k = omega (arith, ints)
product_adds (plus c m p) q so_far k =
    let h = term_product_adds c m q so_far k in
    let e = product_adds p q (add_term_product c m q so_far) k in
    omega (arith, ints, h, e)

-- the product's coefficients are the sums over all pairs of terms
pub product_has_coefficients : (p q : Polynomial) (k : Monomial) → coefficient (product p q) k ≡ product_coefficient p q k
product_has_coefficients p q k = let e = product_adds p q nothing k in omega (arith, ints, e)

-- ---- the canonical form is kept

not_before_from : (a b : AtomTree) (m : Monomial) → is_gt (atom_cmp a b) ≡ false → NotBefore b m → NotBefore a m
not_before_from a b one h n = tt
not_before_from a b (times d m) h n = (upto atom_cmp_total a b d h n.0, not_before_from a b m h n.1)

not_before_insert : (a b : AtomTree) (m : Monomial) → is_gt (atom_cmp a b) ≡ false → NotBefore a m → NotBefore a (insert_atom b m)
not_before_insert a b one h n = (h, tt)
not_before_insert a b (times d m) h n = ordered (atom_cmp b d) _ _ _ (NotBefore a) (λ _. (h, n)) (λ _. (h, n)) (λ _. (n.0, not_before_insert a b m h n.1))

not_greater : (a b : AtomTree) (o : Ordering) → is_gt o ≡ false → atom_cmp a b ≡ o → is_gt (atom_cmp a b) ≡ false
not_greater a b o h e = ap is_gt e ∙ h

pub insert_atom_canonical : (a : AtomTree) (m : Monomial) → IsCanonicalAtom a → IsCanonicalMonomial m → IsCanonicalMonomial (insert_atom a m)
insert_atom_canonical a one c x = (c, tt, tt)
insert_atom_canonical a (times b m) c x =
    ordered (atom_cmp a b) _ _ _ IsCanonicalMonomial
    (λ e. let l = not_greater a b Less refl e in (c, (l, not_before_from a b m l x.1), x))
    (λ e. let l = not_greater a b Equal refl e in (c, (l, not_before_from a b m l x.1), x))
    (λ e. (x.0, not_before_insert b a m (atom_not_after a b e) x.1, insert_atom_canonical a m c x.2))

pub monomial_product_canonical : (m n : Monomial) → IsCanonicalMonomial m → IsCanonicalMonomial n → IsCanonicalMonomial (monomial_product m n)
monomial_product_canonical one n x y = y
monomial_product_canonical (times a m) n x y = monomial_product_canonical m (insert_atom a n) x.2 (insert_atom_canonical a n x.0 y)

before_unless : (m : Monomial) (c : ℤ) (n : Monomial) (p : Polynomial) → monomial_cmp m n ≡ Less → IsBefore m p → IsBefore m (plus_unless_zero c n p)
before_unless m (pos zero) n p h b = b
before_unless m (pos (suc k)) n p h b = (h, b)
before_unless m (negsuc k) n p h b = (h, b)

unless_canonical : (c : ℤ) (m : Monomial) (p : Polynomial) → IsCanonicalMonomial m → IsBefore m p → IsCanonical p → IsCanonical (plus_unless_zero c m p)
unless_canonical (pos zero) m p s b x = x
unless_canonical (pos (suc k)) m p s b x = ((λ e. cc), s, b, x)
unless_canonical (negsuc k) m p s b x = ((λ e. cc), s, b, x)

before_insert : (m : Monomial) (c : ℤ) (n : Monomial) (p : Polynomial) → monomial_cmp m n ≡ Less → IsBefore m p → IsBefore m (insert_term c n p)
before_insert m c n nothing h b = before_unless m c n nothing h tt
before_insert m c n (plus d k p) h b =
    ordered (monomial_cmp n k) _ _ _ (IsBefore m) (λ _. before_unless m c n (plus d k p) h b) (λ _. before_unless m (c +ℤ d) k p b.0 b.1) (λ _. (b.0, before_insert m c n p h b.1))

pub insert_canonical : (c : ℤ) (m : Monomial) (p : Polynomial) → IsCanonicalMonomial m → IsCanonical p → IsCanonical (insert_term c m p)
insert_canonical c m nothing s x = unless_canonical c m nothing s tt tt
insert_canonical c m (plus d n p) s x =
    ordered (monomial_cmp m n) _ _ _ IsCanonical
    (λ e. unless_canonical c m (plus d n p) s (e, before_before m n p e x.2) x)
    (λ _. unless_canonical (c +ℤ d) n p x.1 x.2 x.3)
    (λ e. (x.0, x.1, before_insert n c m p (monomial_less m n e) x.2, insert_canonical c m p s x.3))

pub sum_canonical : (p q : Polynomial) → IsCanonical p → IsCanonical q → IsCanonical (sum p q)
sum_canonical nothing q x y = y
sum_canonical (plus c m p) q x y = sum_canonical p (insert_term c m q) x.3 (insert_canonical c m q x.1 y)

multiple_before : (k : ℤ) (m : Monomial) (p : Polynomial) → IsBefore m p → IsBefore m (multiple k p)
multiple_before k m nothing b = tt
multiple_before k m (plus c n p) b = before_unless m (k *ℤ c) n (multiple k p) b.0 (multiple_before k m p b.1)

pub multiple_canonical : (k : ℤ) (p : Polynomial) → IsCanonical p → IsCanonical (multiple k p)
multiple_canonical k nothing x = tt
multiple_canonical k (plus c m p) x = unless_canonical (k *ℤ c) m (multiple k p) x.1 (multiple_before k m p x.2) (multiple_canonical k p x.3)

pub term_product_canonical : (c : ℤ) (m : Monomial) (q so_far : Polynomial) → IsCanonicalMonomial m → IsCanonical q → IsCanonical so_far → IsCanonical (add_term_product c m q so_far)
term_product_canonical c m nothing so_far s x y = y
term_product_canonical c m (plus d n q) so_far s x y =
    term_product_canonical c m q (insert_term (c *ℤ d) (monomial_product m n) so_far) s x.3
    (insert_canonical (c *ℤ d) (monomial_product m n) so_far (monomial_product_canonical m n s x.1) y)

add_product_canonical : (p q so_far : Polynomial) → IsCanonical p → IsCanonical q → IsCanonical so_far → IsCanonical (add_product p q so_far)
add_product_canonical nothing q so_far x y z = z
add_product_canonical (plus c m p) q so_far x y z = add_product_canonical p q (add_term_product c m q so_far) x.3 y (term_product_canonical c m q so_far x.1 y z)

pub product_canonical : (p q : Polynomial) → IsCanonical p → IsCanonical q → IsCanonical (product p q)
product_canonical p q x y = add_product_canonical p q nothing x y tt

pub number_canonical : (k : ℤ) → IsCanonical (number k)
number_canonical k = unless_canonical k one nothing tt tt tt

-- a number added to a polynomial is its first term or joins it
pub number_inserted : (k : ℤ) (p : Polynomial) → IsCanonical p → insert_term k one p ≡ sum p (number k)
number_inserted k p x =
    unique (insert_term k one p) (sum p (number k)) (insert_canonical k one p tt x) (sum_canonical p (number k) x (number_canonical k)) (λ m _.
    let a = insert_coefficient k one p m in
    let b = sum_coefficient p (number k) m in
    let c = unless_coefficient k one nothing m in
    omega (arith, ints, a, b, c))

pub lessened_canonical : (p : Polynomial) (k : ℕ) (q : Polynomial) (c : ℕ) → IsCanonical p → IsCanonical q → IsCanonical (lessened p k q c)
lessened_canonical p k q c x y =
    sum_canonical (sum p (multiple (pos 0 -ℤ pos k) q)) (number (pos 0 -ℤ pos c)) (sum_canonical p (multiple (pos 0 -ℤ pos k) q) x (multiple_canonical (pos 0 -ℤ pos k) q y)) (number_canonical (pos 0 -ℤ pos c))
