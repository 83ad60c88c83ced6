-- The values of sums, multiples and products.
use Rattle.std.proofs.Common.{◌≡◌, zero, suc, refl, sym, ap, ◌∙◌, arith}
use Rattle.std.specs.Prelude.{ℕ, ℤ, pos, negsuc, ◌+ℤ◌, ◌-ℤ◌, ◌*ℤ◌}
use Rattle.std.proofs.lemmas.Int.{ints}
use Rattle.std.proofs.Math.IntN.{*ℤ_comm, zero-*ℤ}
use Rattle.qs_assert.specs.Values.{State}
use Rattle.qs_poly.specs.Polynomials.{AtomTree, Monomial, one, times, Polynomial, nothing, plus}
use Rattle.qs_poly.specs.Orders.{atom_cmp, monomial_cmp}
use Rattle.qs_poly.specs.Operations.{plus_unless_zero, insert_atom, monomial_product, insert_term, sum, multiple, add_term_product, add_product, product, number, lessened, single}
use Rattle.qs_poly.specs.Values.{atom_value, monomial_value, polynomial_value}
use Rattle.qs_poly.proofs.Ring.{mul_add, mul_assoc, add_mul, mul_swap, mul_pairs}
use Rattle.qs_poly.proofs.Order.{monomial_equal}
use Rattle.qs_poly.proofs.Coefficients.{order_by}

unless_value : (c : ℤ) (m : Monomial) (p : Polynomial) (s : State) → polynomial_value (plus_unless_zero c m p) s ≡ c *ℤ monomial_value m s +ℤ polynomial_value p s
unless_value (pos zero) m p s = let e = zero-*ℤ (monomial_value m s) in omega (arith, ints, e)
unless_value (pos (suc n)) m p s = refl
unless_value (negsuc n) m p s = refl

insert_atom_value : (a : AtomTree) (m : Monomial) (s : State) → monomial_value (insert_atom a m) s ≡ atom_value a s *ℤ monomial_value m s
insert_atom_value a one s = refl
insert_atom_value a (times b m) s =
    order_by (atom_cmp a b) _ _ _ (λ n. monomial_value n s) _ (λ _. refl) (λ _. refl)
    (λ _. ap (λ x. atom_value b s *ℤ x) (insert_atom_value a m s) ∙ mul_swap (atom_value b s) (atom_value a s) (monomial_value m s))

pub monomial_product_value : (m n : Monomial) (s : State) → monomial_value (monomial_product m n) s ≡ monomial_value m s *ℤ monomial_value n s
monomial_product_value one n s = omega (arith, ints)
monomial_product_value (times a m) n s =
    monomial_product_value m (insert_atom a n) s
    ∙ ap (λ x. monomial_value m s *ℤ x) (insert_atom_value a n s)
    ∙ mul_swap (monomial_value m s) (atom_value a s) (monomial_value n s)
    ∙ sym (mul_assoc (atom_value a s) (monomial_value m s) (monomial_value n s))

insert_term_value : (c : ℤ) (m : Monomial) (p : Polynomial) (s : State) → polynomial_value (insert_term c m p) s ≡ c *ℤ monomial_value m s +ℤ polynomial_value p s
insert_term_value c m nothing s = unless_value c m nothing s
insert_term_value c m (plus d n p) s =
    order_by (monomial_cmp m n) _ _ _ (λ q. polynomial_value q s) _
    (λ _. unless_value c m (plus d n p) s)
    (λ e.
    let i = monomial_equal m n e in
    let k = ap (λ x. c *ℤ monomial_value x s) i in
    let t = unless_value (c +ℤ d) n p s in
    let u = mul_add c d (monomial_value n s) in
    omega (arith, ints, k, t, u))
    (λ _. let h = insert_term_value c m p s in omega (arith, ints, h))

pub sum_value : (p q : Polynomial) (s : State) → polynomial_value (sum p q) s ≡ polynomial_value p s +ℤ polynomial_value q s
sum_value nothing q s = omega (arith, ints)
sum_value (plus c m p) q s =
    let h = insert_term_value c m q s in
    let k = sum_value p (insert_term c m q) s in
    omega (arith, ints, h, k)

pub multiple_value : (k : ℤ) (p : Polynomial) (s : State) → polynomial_value (multiple k p) s ≡ k *ℤ polynomial_value p s
multiple_value k nothing s = omega (arith, ints)
multiple_value k (plus c m p) s =
    let t = unless_value (k *ℤ c) m (multiple k p) s in
    let h = multiple_value k p s in
    let a = mul_assoc k c (monomial_value m s) in
    let d = add_mul k (c *ℤ monomial_value m s) (polynomial_value p s) in
    omega (arith, ints, t, h, a, d)

term_product_value : (c : ℤ) (m : Monomial) (q so_far : Polynomial) (s : State) → polynomial_value (add_term_product c m q so_far) s ≡ (c *ℤ monomial_value m s) *ℤ polynomial_value q s +ℤ polynomial_value so_far s
term_product_value c m nothing so_far s =
    let e = *ℤ_comm (c *ℤ monomial_value m s) (pos 0) in
    let f = zero-*ℤ (c *ℤ monomial_value m s) in
    omega (arith, ints, e, f)
term_product_value c m (plus d n q) so_far s =
    let t = insert_term_value (c *ℤ d) (monomial_product m n) so_far s in
    let h = term_product_value c m q (insert_term (c *ℤ d) (monomial_product m n) so_far) s in
    let e = ap (λ x. (c *ℤ d) *ℤ x) (monomial_product_value m n s) ∙ mul_pairs c d (monomial_value m s) (monomial_value n s) in
    let a = add_mul (c *ℤ monomial_value m s) (d *ℤ monomial_value n s) (polynomial_value q s) in
    omega (arith, ints, t, h, e, a)

add_product_value : (p q so_far : Polynomial) (s : State) → polynomial_value (add_product p q so_far) s ≡ polynomial_value p s *ℤ polynomial_value q s +ℤ polynomial_value so_far s
add_product_value nothing q so_far s = let e = zero-*ℤ (polynomial_value q s) in omega (arith, ints, e)
add_product_value (plus c m p) q so_far s =
    let a = add_product_value p q (add_term_product c m q so_far) s in
    let t = term_product_value c m q so_far s in
    let d = mul_add (c *ℤ monomial_value m s) (polynomial_value p s) (polynomial_value q s) in
    omega (arith, ints, a, t, d)

pub product_value : (p q : Polynomial) (s : State) → polynomial_value (product p q) s ≡ polynomial_value p s *ℤ polynomial_value q s
product_value p q s = let e = add_product_value p q nothing s in omega (arith, ints, e)

pub number_value : (k : ℤ) (s : State) → polynomial_value (number k) s ≡ k
number_value (pos zero) s = refl
number_value (pos (suc n)) s = omega (arith, ints)
number_value (negsuc n) s = omega (arith, ints)

-- what is left of p's value
pub lessened_value : (p : Polynomial) (k : ℕ) (q : Polynomial) (c : ℕ) (s : State) → polynomial_value (lessened p k q c) s ≡ (polynomial_value p s -ℤ pos k *ℤ polynomial_value q s) -ℤ pos c
lessened_value p k q c s =
    let a = sum_value (sum p (multiple (pos 0 -ℤ pos k) q)) (number (pos 0 -ℤ pos c)) s in
    let b = sum_value p (multiple (pos 0 -ℤ pos k) q) s in
    let m = multiple_value (pos 0 -ℤ pos k) q s in
    let n = number_value (pos 0 -ℤ pos c) s in
    let none : pos k +ℤ (pos 0 -ℤ pos k) ≡ pos 0 = omega (arith, ints) in
    let d = mul_add (pos k) (pos 0 -ℤ pos k) (polynomial_value q s) in
    let e = ap (λ z. z *ℤ polynomial_value q s) none ∙ zero-*ℤ (polynomial_value q s) in
    omega (arith, ints, a, b, m, n, d, e)

pub single_value : (a : AtomTree) (s : State) → polynomial_value (single a) s ≡ atom_value a s
single_value a s =
    let e = *ℤ_comm (atom_value a s) (pos 1) in
    let f = *ℤ_comm (atom_value a s *ℤ pos 1) (pos 1) in
    omega (arith, ints, e, f)
