-- Certificates: why one assertion is at least another.
use Rattle.std.specs.Prelude.{ℕ, ℤ, List}
use Rattle.qs_assert.specs.declared.variable.Var.{Var}
use Rattle.qs_assert.specs.Trees.{TermTree, CondTree, AssertionTree}

-- k times the polynomial i, or k times the polynomials i and j, by their numbers in the list
pub data Item : Type 0 where
  once : ℕ → ℤ → Item
  twice : ℕ → ℤ → ℤ → Item

-- a fact that adds polynomials to the list
pub data FactTree : Type 0 where
  -- `(range x)`
  range : Var → FactTree
  -- `(range (cost f))`
  cost_range : ℕ → FactTree
  -- `(apart i w)`
  apart : ℤ → List Item → FactTree
  -- `(num t w)`
  num_is : TermTree → List Item → FactTree
  -- `(pos t)`
  num_bounds : TermTree → FactTree
  -- `(wrapu t v w)`
  wrapu_is : TermTree → List Item → List Item → FactTree
  -- `(wraps t v w)`
  wraps_is : TermTree → List Item → List Item → FactTree
  -- `(boundu t)`
  wrapu_bounds : TermTree → FactTree
  -- `(bounds t)`
  wraps_bounds : TermTree → FactTree
  -- `(div t k)`
  quotient_bounds : TermTree → ℕ → FactTree
  -- `(bits t)`
  bits_bound : TermTree → FactTree
  -- `(half t w)`
  bits_half : TermTree → List Item → FactTree
  -- `(mono t u w)`
  bits_rise : TermTree → TermTree → List Item → FactTree

mutual
  pub data CertTree : Type 0 where
    -- `(same)`
    same : CertTree
    -- `(via R c d)`
    via : AssertionTree → CertTree → CertTree → CertTree
    -- `(pick i c)`
    pick : ℤ → CertTree → CertTree
    -- `(all c ..)`
    all : CertTrees → CertTree
    -- `(parts c ..)`
    parts : CertTrees → CertTree
    -- `(assume c)`
    assume : CertTree → CertTree
    -- `(drop c d)`
    drop : CertTree → CertTree → CertTree
    -- `(split b c d)`
    split : CondTree → CertTree → CertTree → CertTree
    -- `(absurd w)`
    contradict : List Item → CertTree
    -- `(arith w)`
    arithmetic : List Item → CertTree
    -- `(unfold N c)`
    by_definition : List ℕ → CertTree → CertTree
    -- a fact, and c behind it
    fact : FactTree → CertTree → CertTree

  pub data CertTrees : Type 0 where
    no_certs : CertTrees
    cert_and : CertTree → CertTrees → CertTrees
