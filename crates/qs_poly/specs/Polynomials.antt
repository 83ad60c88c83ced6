-- Polynomials with whole coefficients over atoms, as plain data. An atom may hold polynomials. A
-- function goes by its number.
use Rattle.std.specs.Prelude.{ℕ, ℤ}
use Rattle.qs_assert.specs.declared.variable.Var.{Var}

mutual
  pub data AtomTree : Type 0 where
    variable : Var → AtomTree
    cost : ℕ → AtomTree
    num : Polynomial → AtomTree
    div : Polynomial → ℕ → AtomTree
    wrapu wraps bits : Polynomial → AtomTree

  -- a product of atoms: 1, or an atom times the others
  pub data Monomial : Type 0 where
    one : Monomial
    times : AtomTree → Monomial → Monomial

  -- a sum of terms: 0, or a coefficient times a monomial, and the others
  pub data Polynomial : Type 0 where
    nothing : Polynomial
    plus : ℤ → Monomial → Polynomial → Polynomial
