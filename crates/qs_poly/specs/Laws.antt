-- What the operations on polynomials mean, coefficient by coefficient, and when two polynomials are equal.
use Rattle.std.specs.Prelude.{◌≡◌, ℤ, ◌+ℤ◌, ◌*ℤ◌, true}
use Rattle.qs_poly.specs.Canonical.{coefficient, product_coefficient, IsCanonical, IsCanonicalMonomial}
use Rattle.qs_poly.specs.Operations.{sum, multiple, product}
use Rattle.qs_poly.specs.Polynomials.{Monomial, Polynomial}
use Rattle.qs_poly.specs.Terms.{polynomial_eq}

pub record AreExact : Type 0 where
  pub sums : (p q : Polynomial) (m : Monomial) → coefficient (sum p q) m ≡ coefficient p m +ℤ coefficient q m
  pub multiples : (k : ℤ) (p : Polynomial) (m : Monomial) → coefficient (multiple k p) m ≡ k *ℤ coefficient p m
  pub products : (p q : Polynomial) (m : Monomial) → coefficient (product p q) m ≡ product_coefficient p q m
  -- polynomials in canonical form are equal where each monomial has the same coefficient in both
  pub unique : (p q : Polynomial) → IsCanonical p → IsCanonical q → ((m : Monomial) → IsCanonicalMonomial m → coefficient p m ≡ coefficient q m) → p ≡ q
  -- what the test of equality says
  pub equal : (p q : Polynomial) → polynomial_eq p q ≡ true → p ≡ q
  pub itself : (p : Polynomial) → polynomial_eq p p ≡ true
