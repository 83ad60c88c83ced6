-- What a polynomial is: the coefficient of each monomial. Canonical polynomials with the same
-- coefficients are equal.
use Rattle.std.specs.Prelude.{◌≡◌, ◌≢◌, ℤ, pos, ◌+ℤ◌, ◌*ℤ◌, false}
use Rattle.std.specs.declared.cmp.Ordering.TheVariants.{Less}
use Rattle.std.specs.Ordering.{is_gt}
use Rattle.qs_poly.specs.Polynomials.{AtomTree, variable, cost, num, div, wrapu, wraps, bits, Monomial, one, times, Polynomial, nothing, plus}
use Rattle.qs_poly.specs.Orders.{atom_cmp, monomial_cmp}
use Rattle.qs_poly.specs.Operations.{by_order, monomial_product}

-- ---- coefficients

-- c where both monomials are the same, else 0
abbrev pub where_same : Monomial → Monomial → ℤ → ℤ
where_same m n c = by_order (monomial_cmp m n) (pos 0) c (pos 0)

-- the coefficient of a monomial: the sum over its terms
abbrev pub coefficient : Polynomial → Monomial → ℤ
coefficient nothing k = pos 0
coefficient (plus c m p) k = where_same k m c +ℤ coefficient p k

-- the coefficient in a product of a term and a polynomial: the sum over the terms
abbrev pub term_product_coefficient : ℤ → Monomial → Polynomial → Monomial → ℤ
term_product_coefficient c m nothing k = pos 0
term_product_coefficient c m (plus d n q) k = where_same k (monomial_product m n) (c *ℤ d) +ℤ term_product_coefficient c m q k

-- the coefficient in a product: the sum over all pairs of terms
abbrev pub product_coefficient : Polynomial → Polynomial → Monomial → ℤ
product_coefficient nothing q k = pos 0
product_coefficient (plus c m p) q k = term_product_coefficient c m q k +ℤ product_coefficient p q k

-- ---- the canonical form

-- no atom of m is before a
abbrev pub NotBefore : AtomTree → Monomial → Type 0
NotBefore a one = Unit {0}
NotBefore a (times b m) = (is_gt (atom_cmp a b) ≡ false) × NotBefore a m

-- m is before every monomial of p
abbrev pub IsBefore : Monomial → Polynomial → Type 0
IsBefore m nothing = Unit {0}
IsBefore m (plus d n p) = (monomial_cmp m n ≡ Less) × IsBefore m p

abbrev mutual
  pub IsCanonicalAtom : AtomTree → Type 0
  IsCanonicalAtom (variable x) = Unit {0}
  IsCanonicalAtom (cost f) = Unit {0}
  IsCanonicalAtom (num p) = IsCanonical p
  IsCanonicalAtom (div p k) = IsCanonical p
  IsCanonicalAtom (wrapu p) = IsCanonical p
  IsCanonicalAtom (wraps p) = IsCanonical p
  IsCanonicalAtom (bits p) = IsCanonical p

  -- the atoms stand in order
  pub IsCanonicalMonomial : Monomial → Type 0
  IsCanonicalMonomial one = Unit {0}
  IsCanonicalMonomial (times a m) = IsCanonicalAtom a × NotBefore a m × IsCanonicalMonomial m

  -- the monomials stand in order, each once, and no coefficient is 0
  pub IsCanonical : Polynomial → Type 0
  IsCanonical nothing = Unit {0}
  IsCanonical (plus c m p) = (c ≢ pos 0) × IsCanonicalMonomial m × IsBefore m p × IsCanonical p
