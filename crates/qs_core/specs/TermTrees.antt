-- Terms and conditions of expressions, which derivations of stack bounds and the outline speak of. A
-- term stands for a whole number without bound.
use Rattle.std.specs.Prelude.{ℕ, ℤ}
use Rattle.qs_memory.specs.declared.scalar.Scalar.{Scalar}
use Rattle.qs_memory.specs.declared.operation.Signedness.{Signedness}
use Rattle.qs_core.specs.declared.term.TermOperation.{TermOperation}
use Rattle.qs_core.specs.declared.term.TermComparison.{TermComparison}

pub data CoreTermTree : Type 0 where
  number : ℤ → CoreTermTree
  -- the value of the variable or temporary of this type with this number
  variable temporary : Scalar → ℕ → CoreTermTree
  -- a sum, difference or product
  combined : TermOperation → CoreTermTree → CoreTermTree → CoreTermTree
  -- rounded down
  quotient : CoreTermTree → (divisor : ℕ) → CoreTermTree
  -- modulo 2 ^ 32, into the range of `int` or of `unsigned`
  wrapped : Signedness → CoreTermTree → CoreTermTree

pub data CoreConditionTree : Type 0 where
  compared : TermComparison → CoreTermTree → CoreTermTree → CoreConditionTree
  not : CoreConditionTree → CoreConditionTree
  and or : CoreConditionTree → CoreConditionTree → CoreConditionTree
