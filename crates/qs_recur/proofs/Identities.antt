-- What the combinations of the forms read.
use Rattle.std.proofs.Common.{◌≡◌, ◌≤◌, ◌-◌, ◌^◌, ℕ, sym, ap, ◌∙◌, arith}
use Rattle.std.specs.Prelude.{ℤ, pos, negsuc, ◌+ℤ◌, ◌-ℤ◌, ◌*ℤ◌}
use Rattle.std.proofs.lemmas.Int.{ints}
use Rattle.qs_poly.specs.Polynomials.{AtomTree, Monomial, one, times, Polynomial, nothing}
use Rattle.qs_poly.specs.Operations.{sum, multiple, product, number, lessened, single}
use Rattle.qs_poly.proofs.Ring.{mul_add}
use Rattle.qs_recur.proofs.Readings.{reading, one_times, sum_reading, multiple_reading, once_reading, number_reading, single_reading, difference_reading, one_less_reading, with_atom, product_reading}

-- ---- whole numbers

pos_less : (k n : ℕ) → k ≤ n → pos n ≡ pos k +ℤ pos (n - k)
pos_less k n h = omega (arith, ints, h)

-- a multiple in two parts
pub spread : (k n : ℕ) (u : ℤ) → k ≤ n → pos n *ℤ u ≡ pos k *ℤ u +ℤ pos (n - k) *ℤ u
spread k n u h = ap (λ (z : ℤ). z *ℤ u) (pos_less k n h) ∙ mul_add (pos k) (pos (n - k)) u

less_zero : (z : ℤ) → z -ℤ pos 0 ≡ z
less_zero z = omega (arith, ints)

first_linear : (a b x n k e p : ℤ) → a ≡ x -ℤ n → b ≡ e → n ≡ k +ℤ e → p ≡ x -ℤ k → a +ℤ b ≡ p
first_linear a b x n k e p h i j l = omega (arith, ints, h, i, j, l)

second_linear : (a b room m x k p : ℤ) → a ≡ m -ℤ x → b ≡ k → p ≡ x -ℤ k → room ≡ m -ℤ p → a +ℤ b ≡ room
second_linear a b room m x k p h i j l = omega (arith, ints, h, i, j, l)

wrapped_linear : (a b c w x p n k e : ℤ) → a ≡ w -ℤ p → b ≡ x -ℤ n → c ≡ e → n ≡ k +ℤ e → p ≡ x -ℤ k → a +ℤ b +ℤ c ≡ w
wrapped_linear a b c w x p n k e h i j l m = omega (arith, ints, h, i, j, l, m)

paid_linear :
    (a b c d nx nw x w p u k j ra rb da : ℤ) → a ≡ nx -ℤ x → b ≡ w -ℤ nw → c ≡ p -ℤ w → d ≡ j → p ≡ x -ℤ k → k ≡ u +ℤ j → ra ≡ nx → rb ≡ u +ℤ nw → da ≡ ra -ℤ rb
    → a +ℤ b +ℤ c +ℤ d ≡ da
paid_linear a b c d nx nw x w p u k j ra rb da h i l m n o q r s = omega (arith, ints, h, i, l, m, n, o, q, r, s)

-- ---- sums

pub three_read : (g : Monomial → ℤ) (p q r : Polynomial) → reading g (sum (sum p q) r) ≡ reading g p +ℤ reading g q +ℤ reading g r
three_read g p q r = sum_reading g (sum p q) r ∙ ap (λ (z : ℤ). z +ℤ reading g r) (sum_reading g p q)

pub four_read : (g : Monomial → ℤ) (p q r s : Polynomial) → reading g (sum (sum (sum p q) r) s) ≡ reading g p +ℤ reading g q +ℤ reading g r +ℤ reading g s
four_read g p q r s = sum_reading g (sum (sum p q) r) s ∙ ap (λ (z : ℤ). z +ℤ reading g s) (three_read g p q r)

-- ---- numbers

pub units : (g : Monomial → ℤ) (c : ℕ) → reading g (multiple (pos c) (number (pos 1))) ≡ pos c *ℤ g one
units g c = multiple_reading g (pos c) (number (pos 1)) ∙ ap (λ (z : ℤ). pos c *ℤ z) (number_reading g (pos 1) ∙ one_times (g one))

pub less_number : (g : Monomial → ℤ) (p : Polynomial) (c : ℕ) → reading g (lessened p 1 (number (pos c)) 0) ≡ reading g p -ℤ pos c *ℤ g one
less_number g p c = difference_reading g p (number (pos c)) ∙ ap (λ (z : ℤ). reading g p -ℤ z) (number_reading g (pos c))

-- ---- x, w for the wrapped x - k, n for the least x

abbrev pub x_less : Polynomial → ℕ → Polynomial
x_less x k = lessened x 1 (number (pos k)) 0

abbrev pub once_of : Polynomial → Polynomial
once_of p = multiple (pos 1) p

abbrev pub number_times : ℕ → Polynomial
number_times c = multiple (pos c) (number (pos 1))

abbrev pub greatest_unsigned : Polynomial
greatest_unsigned = number (pos (2 ^ 32 - 1))

pub not_below :
    (g : Monomial → ℤ) (x : Polynomial) (k n : ℕ) → k ≤ n → reading g (sum (once_of (x_less x n)) (number_times (n - k))) ≡ reading g (x_less x k)
not_below g x k n h =
    sum_reading g (once_of (x_less x n)) (number_times (n - k))
    ∙ first_linear (reading g (once_of (x_less x n))) (reading g (number_times (n - k))) (reading g x) (pos n *ℤ g one) (pos k *ℤ g one) (pos (n - k) *ℤ g one) (reading g (x_less x k))
    (once_reading g (x_less x n) ∙ less_number g x n) (units g (n - k)) (spread k n (g one) h) (less_number g x k)

pub not_above :
    (g : Monomial → ℤ) (x : Polynomial) (k : ℕ) → reading g (sum (once_of (lessened greatest_unsigned 1 x 0)) (number_times k)) ≡ reading g (lessened greatest_unsigned 1 (x_less x k) 0)
not_above g x k =
    sum_reading g (once_of (lessened greatest_unsigned 1 x 0)) (number_times k)
    ∙ second_linear (reading g (once_of (lessened greatest_unsigned 1 x 0))) (reading g (number_times k)) (reading g (lessened greatest_unsigned 1 (x_less x k) 0)) (reading g greatest_unsigned) (reading g x) (pos k *ℤ g one) (reading g (x_less x k))
    (once_reading g (lessened greatest_unsigned 1 x 0) ∙ difference_reading g greatest_unsigned x) (units g k) (less_number g x k) (difference_reading g greatest_unsigned (x_less x k))

pub x_again : (g : Monomial → ℤ) (x : Polynomial) → reading g (once_of (x_less x 0)) ≡ reading g x
x_again g x = once_reading g (x_less x 0) ∙ difference_reading g x (number (pos 0)) ∙ less_zero (reading g x)

pub wrapped_again :
    (g : Monomial → ℤ) (x w : Polynomial) (k n : ℕ) → k ≤ n
    → reading g (sum (sum (once_of (lessened w 1 (x_less x k) 0)) (once_of (x_less x n))) (number_times (n - k))) ≡ reading g w
wrapped_again g x w k n h =
    three_read g (once_of (lessened w 1 (x_less x k) 0)) (once_of (x_less x n)) (number_times (n - k))
    ∙ wrapped_linear (reading g (once_of (lessened w 1 (x_less x k) 0))) (reading g (once_of (x_less x n))) (reading g (number_times (n - k))) (reading g w) (reading g x) (reading g (x_less x k)) (pos n *ℤ g one) (pos k *ℤ g one) (pos (n - k) *ℤ g one)
    (once_reading g (lessened w 1 (x_less x k) 0) ∙ difference_reading g w (x_less x k)) (once_reading g (x_less x n) ∙ less_number g x n) (units g (n - k)) (spread k n (g one) h) (less_number g x k)

-- ---- products

-- c times an atom's product with an atom
abbrev pub term_of : AtomTree → AtomTree → Polynomial
term_of n a = product (product (number (pos 1)) (single n)) (single a)

abbrev pub once_with : AtomTree → Polynomial → Polynomial
once_with a p = multiple (pos 1) (product p (single a))

abbrev pub number_with : AtomTree → ℕ → Polynomial
number_with a c = multiple (pos c) (product (number (pos 1)) (single a))

one_with_reads : (g : Monomial → ℤ) (a : AtomTree) → reading g (product (number (pos 1)) (single a)) ≡ g (times a one)
one_with_reads g a = product_reading g a (number (pos 1)) ∙ number_reading (with_atom a g) (pos 1) ∙ one_times (g (times a one))

pub once_with_reads : (g : Monomial → ℤ) (a : AtomTree) (p : Polynomial) → reading g (once_with a p) ≡ reading (with_atom a g) p
once_with_reads g a p = once_reading g (product p (single a)) ∙ product_reading g a p

pub number_with_reads : (g : Monomial → ℤ) (a : AtomTree) (c : ℕ) → reading g (number_with a c) ≡ pos c *ℤ g (times a one)
number_with_reads g a c = multiple_reading g (pos c) (product (number (pos 1)) (single a)) ∙ ap (λ (z : ℤ). pos c *ℤ z) (one_with_reads g a)

pub term_reads : (g : Monomial → ℤ) (n a : AtomTree) → reading g (term_of n a) ≡ reading (with_atom a g) (single n)
term_reads g n a =
    product_reading g a (product (number (pos 1)) (single n)) ∙ one_with_reads (with_atom a g) n ∙ sym (single_reading (with_atom a g) n)

pub one_more : (k : ℕ) (u : ℤ) → 1 ≤ k → pos k *ℤ u ≡ u +ℤ pos (k - 1) *ℤ u
one_more k u h = spread 1 k u h ∙ ap (λ (z : ℤ). z +ℤ pos (k - 1) *ℤ u) (one_times u)

-- x times a is at least a and w times a
pub paid :
    (g : Monomial → ℤ) (x w : Polynomial) (n m a : AtomTree) (k : ℕ) → 1 ≤ k
    → reading g (sum (sum (sum (once_with a (lessened (single n) 1 x 0)) (once_with a (lessened w 1 (single m) 0))) (once_with a (lessened (x_less x k) 1 w 0))) (number_with a (k - 1)))
    ≡ reading g (lessened (term_of n a) 1 (sum (single a) (term_of m a)) 0)
paid g x w n m a k h =
    let i = once_with a (lessened (single n) 1 x 0) in
    let j = once_with a (lessened w 1 (single m) 0) in
    let o = once_with a (lessened (x_less x k) 1 w 0) in
    let v = with_atom a g in
    let u = g (times a one) in
    four_read g i j o (number_with a (k - 1))
    ∙ paid_linear (reading g i) (reading g j) (reading g o) (reading g (number_with a (k - 1))) (reading v (single n)) (reading v (single m)) (reading v x) (reading v w) (reading v (x_less x k)) u (pos k *ℤ u) (pos (k - 1) *ℤ u)
    (reading g (term_of n a)) (reading g (sum (single a) (term_of m a))) (reading g (lessened (term_of n a) 1 (sum (single a) (term_of m a)) 0))
    (once_with_reads g a (lessened (single n) 1 x 0) ∙ difference_reading v (single n) x)
    (once_with_reads g a (lessened w 1 (single m) 0) ∙ difference_reading v w (single m))
    (once_with_reads g a (lessened (x_less x k) 1 w 0) ∙ difference_reading v (x_less x k) w)
    (number_with_reads g a (k - 1)) (less_number v x k) (one_more k u h) (term_reads g n a)
    (sum_reading g (single a) (term_of m a) ∙ ap (λ (z : ℤ). z +ℤ reading g (term_of m a)) (single_reading g a) ∙ ap (λ (z : ℤ). u +ℤ z) (term_reads g m a))
    (difference_reading g (term_of n a) (sum (single a) (term_of m a)))

-- ---- what can't be

abbrev pub minus_one : Polynomial
minus_one = number (negsuc 0)

-- what differs is apart by one
abbrev pub but_one : Polynomial → Polynomial
but_one z = sum z minus_one

opposite_linear : (a b x y n : ℤ) → a ≡ y -ℤ x → b ≡ x -ℤ y +ℤ n → a +ℤ b ≡ n
opposite_linear a b x y n h i = omega (arith, ints, h, i)

below_one_linear : (a b i u x n : ℤ) → a ≡ i -ℤ x -ℤ u → i ≡ u → b ≡ x +ℤ n → a +ℤ b ≡ n
below_one_linear a b i u x n h j k = omega (arith, ints, h, j, k)

less_itself : (z : ℤ) → z -ℤ z ≡ pos 0
less_itself z = omega (arith, ints)

again_linear : (a b x y : ℤ) → a ≡ x → b ≡ y -ℤ x → a +ℤ b ≡ y
again_linear a b x y h i = omega (arith, ints, h, i)

kept_linear : (a b c n m x y ra rb da : ℤ) → a ≡ n -ℤ x → b ≡ x -ℤ y → c ≡ y -ℤ m → ra ≡ n → rb ≡ m → da ≡ ra -ℤ rb → a +ℤ b +ℤ c ≡ da
kept_linear a b c n m x y ra rb da h i j k l o = omega (arith, ints, h, i, j, k, l, o)

but_one_reads : (g : Monomial → ℤ) (p : Polynomial) → reading g (once_of (but_one (once_of p))) ≡ reading g p +ℤ reading g minus_one
but_one_reads g p =
    once_reading g (but_one (once_of p)) ∙ sum_reading g (once_of p) minus_one ∙ ap (λ (z : ℤ). z +ℤ reading g minus_one) (once_reading g p)

-- y - x, and x - y - 1
pub opposite : (g : Monomial → ℤ) (x y : Polynomial) → reading g (sum (once_of (lessened y 1 x 0)) (once_of (but_one (once_of (lessened x 1 y 0))))) ≡ reading g minus_one
opposite g x y =
    let a = once_of (lessened y 1 x 0) in
    let b = once_of (but_one (once_of (lessened x 1 y 0))) in
    sum_reading g a b
    ∙ opposite_linear (reading g a) (reading g b) (reading g x) (reading g y) (reading g minus_one) (once_reading g (lessened y 1 x 0) ∙ difference_reading g y x)
    (but_one_reads g (lessened x 1 y 0) ∙ ap (λ (z : ℤ). z +ℤ reading g minus_one) (difference_reading g x y))

-- 1 - x - 1, and x - 1
pub below_one : (g : Monomial → ℤ) (x : Polynomial) → reading g (sum (once_of (lessened (number (pos 1)) 1 x 1)) (once_of (but_one (once_of (x_less x 0))))) ≡ reading g minus_one
below_one g x =
    let a = once_of (lessened (number (pos 1)) 1 x 1) in
    let b = once_of (but_one (once_of (x_less x 0))) in
    sum_reading g a b
    ∙ below_one_linear (reading g a) (reading g b) (reading g (number (pos 1))) (g one) (reading g x) (reading g minus_one) (once_reading g (lessened (number (pos 1)) 1 x 1) ∙ one_less_reading g (number (pos 1)) x)
    (number_reading g (pos 1) ∙ one_times (g one)) (but_one_reads g (x_less x 0) ∙ ap (λ (z : ℤ). z +ℤ reading g minus_one) (difference_reading g x (number (pos 0)) ∙ less_zero (reading g x)))

pub itself : (g : Monomial → ℤ) (x : Polynomial) → reading g nothing ≡ reading g (lessened x 1 x 0)
itself g x = sym (difference_reading g x x ∙ less_itself (reading g x))

-- ---- what was

pub y_again : (g : Monomial → ℤ) (x y : Polynomial) → reading g (sum (once_of (x_less x 0)) (once_of (lessened y 1 x 0))) ≡ reading g y
y_again g x y =
    let a = once_of (x_less x 0) in
    let b = once_of (lessened y 1 x 0) in
    sum_reading g a b ∙ again_linear (reading g a) (reading g b) (reading g x) (reading g y) (x_again g x) (once_reading g (lessened y 1 x 0) ∙ difference_reading g y x)

pub kept :
    (g : Monomial → ℤ) (x y : Polynomial) (n m a : AtomTree)
    → reading g (sum (sum (once_with a (lessened (single n) 1 x 0)) (once_with a (lessened x 1 y 0))) (once_with a (lessened y 1 (single m) 0)))
    ≡ reading g (lessened (term_of n a) 1 (term_of m a) 0)
kept g x y n m a =
    let i = once_with a (lessened (single n) 1 x 0) in
    let j = once_with a (lessened x 1 y 0) in
    let o = once_with a (lessened y 1 (single m) 0) in
    let v = with_atom a g in
    three_read g i j o
    ∙ kept_linear (reading g i) (reading g j) (reading g o) (reading v (single n)) (reading v (single m)) (reading v x) (reading v y) (reading g (term_of n a)) (reading g (term_of m a)) (reading g (lessened (term_of n a) 1 (term_of m a) 0))
    (once_with_reads g a (lessened (single n) 1 x 0) ∙ difference_reading v (single n) x)
    (once_with_reads g a (lessened x 1 y 0) ∙ difference_reading v x y)
    (once_with_reads g a (lessened y 1 (single m) 0) ∙ difference_reading v y (single m))
    (term_reads g n a) (term_reads g m a) (difference_reading g (term_of n a) (term_of m a))
