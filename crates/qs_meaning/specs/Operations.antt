-- Which operation an operator stands for at the types of its operands, and what these are converted to (C11 6.5.5 to 6.5.12, 6.5.16.2).
use Rattle.std.specs.Prelude.{ℕ, Option, Some, None, if◌then◌else◌}
use Rattle.qs_syntax_vocabulary.specs.declared.operators.BinaryOperator.{BinaryOperator}
use Rattle.qs_syntax_vocabulary.specs.declared.operators.BinaryOperator.TheVariants as binaries
use Rattle.qs_memory.specs.declared.operation.Signedness.{Signedness}
use Rattle.qs_memory.specs.declared.operation.Signedness.TheVariants.{Signed, Unsigned}
use Rattle.qs_memory.specs.declared.operation.Direction.{Direction}
use Rattle.qs_memory.specs.declared.operation.Direction.TheVariants.{Up, Down}
use Rattle.qs_memory.specs.declared.operation.Arithmetic.{Arithmetic}
use Rattle.qs_memory.specs.declared.operation.Arithmetic.TheVariants as arithmetics
use Rattle.qs_memory.specs.declared.operation.Comparison.{Comparison}
use Rattle.qs_memory.specs.declared.operation.Comparison.TheVariants as comparisons
use Rattle.qs_memory.specs.declared.operation.BinaryOperation.{BinaryOperation}
use Rattle.qs_memory.specs.declared.operation.BinaryOperation.TheVariants as operations
use Rattle.qs_memory.specs.Partial.{◌>>=◌}
use Rattle.qs_types.specs.Types.{TypeTree, int, unsigned, same_type, is_pointer, referenced, Structs}
use Rattle.qs_types.specs.Layout.{size_of}
use Rattle.qs_types.specs.Conversions.{promoted, arithmetic, common}
use Rattle.qs_meaning.specs.Typed.{Conversion, unchanged, Order, as_written, exchanged}
use Rattle.qs_meaning.specs.Conversions.{conversion}

-- the operation, what its operands are converted to before it, the type of its result, and the order in which it takes its operands
pub record Operated : Type 0 where
  pub operation : BinaryOperation
  pub left : Conversion
  pub right : Conversion
  pub type : TypeTree
  pub order : Order

-- a promoted type is int or unsigned
abbrev pub signedness : TypeTree → Signedness
signedness t = if same_type t unsigned then Unsigned else Signed

-- ---- integers

-- 6.5.5p3, 6.5.6p4, 6.5.10p3, 6.5.11p3, 6.5.12p3: the usual arithmetic conversions
abbrev pub combined : Arithmetic → (t u : TypeTree) → Operated
combined operator t u = record {
  operation = operations.Arithmetic operator (signedness (arithmetic t u));
  left = conversion t (arithmetic t u);
  right = conversion u (arithmetic t u);
  type = arithmetic t u;
  order = as_written;
}

-- 6.5.7p3: each operand is promoted, and the type is that of the promoted left one
abbrev pub shifted : Arithmetic → (t u : TypeTree) → Operated
shifted operator t u = record {
  operation = operations.Arithmetic operator (signedness (promoted t));
  left = conversion t (promoted t);
  right = conversion u (promoted u);
  type = promoted t;
  order = as_written;
}

abbrev pub comparison_of : Comparison → TypeTree → BinaryOperation
comparison_of comparison t = if is_pointer t then operations.ComparePointers comparison else operations.Compare comparison (signedness t)

-- 6.5.8p3, p5, p6, 6.5.9p3 to p6: integers after the usual arithmetic conversions, or pointers; a null constant beside a pointer turns into
-- one; the result has type int
abbrev pub compared : Comparison → (t u : TypeTree) → Operated
compared comparison t u = record {
  operation = comparison_of comparison (common t u);
  left = conversion t (common t u);
  right = conversion u (common t u);
  type = int;
  order = as_written;
}

-- ---- pointers (6.5.6): the size of an element is that of the type that the pointer leads to

-- 6.5.6p8: the integer is promoted
abbrev pub moved : Direction → (element : ℕ) → (t u : TypeTree) → Operated
moved direction element t u = record {
  operation = operations.Move direction (signedness (promoted u)) element;
  left = unchanged;
  right = conversion u (promoted u);
  type = t;
  order = as_written;
}

abbrev pub moved_from_left : (element : ℕ) → (t u : TypeTree) → Operated
moved_from_left element t u = record {
  operation = operations.Move Up (signedness (promoted t)) element;
  left = conversion t (promoted t);
  right = unchanged;
  type = u;
  order = exchanged;
}

-- 6.5.6p9
abbrev pub apart : (element : ℕ) → Operated
apart element = record { operation = operations.Difference element; left = unchanged; right = unchanged; type = int; order = as_written }

abbrev pub element_size : Structs → TypeTree → Option ℕ
element_size structs t = size_of structs (referenced t)

-- 6.5.6p2
abbrev pub summed : Structs → (t u : TypeTree) → Option Operated
summed structs t u =
    if is_pointer t then (element_size structs t >>= λ element. Some (moved Up element t u))
    else (if is_pointer u then (element_size structs u >>= λ element. Some (moved_from_left element t u))
    else Some (combined arithmetics.Add t u))

-- 6.5.6p3
abbrev pub subtracted : Structs → (t u : TypeTree) → Option Operated
subtracted structs t u =
    if is_pointer u then (element_size structs t >>= λ element. Some (apart element))
    else (if is_pointer t then (element_size structs t >>= λ element. Some (moved Down element t u))
    else Some (combined arithmetics.Subtract t u))

-- ---- an operator between two values of the types t and u; `&&` and `||` are no operations, since they don't always evaluate both operands

abbrev pub operation_of : Structs → BinaryOperator → (t u : TypeTree) → Option Operated
operation_of structs binaries.Multiply t u = Some (combined arithmetics.Multiply t u)
operation_of structs binaries.Divide t u = Some (combined arithmetics.Divide t u)
operation_of structs binaries.Remainder t u = Some (combined arithmetics.Remainder t u)
operation_of structs binaries.Add t u = summed structs t u
operation_of structs binaries.Subtract t u = subtracted structs t u
operation_of structs binaries.ShiftLeft t u = Some (shifted arithmetics.ShiftLeft t u)
operation_of structs binaries.ShiftRight t u = Some (shifted arithmetics.ShiftRight t u)
operation_of structs binaries.Less t u = Some (compared comparisons.Less t u)
operation_of structs binaries.Greater t u = Some (compared comparisons.Greater t u)
operation_of structs binaries.LessEqual t u = Some (compared comparisons.LessOrEqual t u)
operation_of structs binaries.GreaterEqual t u = Some (compared comparisons.GreaterOrEqual t u)
operation_of structs binaries.Equal t u = Some (compared comparisons.Equal t u)
operation_of structs binaries.NotEqual t u = Some (compared comparisons.NotEqual t u)
operation_of structs binaries.BitAnd t u = Some (combined arithmetics.And t u)
operation_of structs binaries.BitXor t u = Some (combined arithmetics.Xor t u)
operation_of structs binaries.BitOr t u = Some (combined arithmetics.Or t u)
operation_of structs binaries.And t u = None
operation_of structs binaries.Or t u = None
