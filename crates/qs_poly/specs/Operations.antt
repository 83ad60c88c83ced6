-- The sum, the multiples and the product of polynomials in canonical form. Terms and atoms are put
-- into their places one after the other.
use Rattle.std.specs.Prelude.{ℕ, zero, suc, ℤ, pos, negsuc, ◌+ℤ◌, ◌-ℤ◌, ◌*ℤ◌}
use Rattle.std.specs.declared.cmp.Ordering.{Ordering}
use Rattle.std.specs.declared.cmp.Ordering.TheVariants.{Less, Equal, Greater}
use Rattle.qs_poly.specs.Polynomials.{AtomTree, Monomial, one, times, Polynomial, nothing, plus}
use Rattle.qs_poly.specs.Orders.{atom_cmp, monomial_cmp}

abbrev pub by_order : {A : Type 0} → Ordering → A → A → A → A
by_order Less less equal greater = less
by_order Equal less equal greater = equal
by_order Greater less equal greater = greater

-- ---- monomials

-- an atom times a monomial: the atom before the first that isn't less
abbrev pub insert_atom : AtomTree → Monomial → Monomial
insert_atom a one = times a one
insert_atom a (times b m) = by_order (atom_cmp a b) (times a (times b m)) (times a (times b m)) (times b (insert_atom a m))

abbrev pub monomial_product : Monomial → Monomial → Monomial
monomial_product one n = n
monomial_product (times a m) n = monomial_product m (insert_atom a n)

-- ---- polynomials

-- a term and a polynomial, without a term of coefficient 0
abbrev pub plus_unless_zero : ℤ → Monomial → Polynomial → Polynomial
plus_unless_zero (pos zero) m p = p
plus_unless_zero (pos (suc n)) m p = plus (pos (suc n)) m p
plus_unless_zero (negsuc n) m p = plus (negsuc n) m p

-- the sum of a term and a polynomial
abbrev pub insert_term : ℤ → Monomial → Polynomial → Polynomial
insert_term c m nothing = plus_unless_zero c m nothing
insert_term c m (plus d n p) = by_order (monomial_cmp m n) (plus_unless_zero c m (plus d n p)) (plus_unless_zero (c +ℤ d) n p) (plus d n (insert_term c m p))

abbrev pub sum : Polynomial → Polynomial → Polynomial
sum nothing q = q
sum (plus c m p) q = sum p (insert_term c m q)

abbrev pub multiple : ℤ → Polynomial → Polynomial
multiple k nothing = nothing
multiple k (plus c m p) = plus_unless_zero (k *ℤ c) m (multiple k p)

-- a term times a polynomial, added to a polynomial
abbrev pub add_term_product : ℤ → Monomial → Polynomial → Polynomial → Polynomial
add_term_product c m nothing so_far = so_far
add_term_product c m (plus d n q) so_far = add_term_product c m q (insert_term (c *ℤ d) (monomial_product m n) so_far)

-- the product of two polynomials, added to a polynomial
abbrev pub add_product : Polynomial → Polynomial → Polynomial → Polynomial
add_product nothing q so_far = so_far
add_product (plus c m p) q so_far = add_product p q (add_term_product c m q so_far)

abbrev pub product : Polynomial → Polynomial → Polynomial
product p q = add_product p q nothing

abbrev pub number : ℤ → Polynomial
number k = plus_unless_zero k one nothing

-- p, less k times q, less c
abbrev pub lessened : Polynomial → ℕ → Polynomial → ℕ → Polynomial
lessened p k q c = sum (sum p (multiple (pos 0 -ℤ pos k) q)) (number (pos 0 -ℤ pos c))

abbrev pub single : AtomTree → Polynomial
single a = plus (pos 1) (times a one) nothing
