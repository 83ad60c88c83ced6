-- The terms and conditions of expressions. Not every expression has one.
use Rattle.std.specs.Prelude.{ℕ, ℤ, pos, ◌^◌, nat_le, nat_lt, Bool, true, false, Option, Some, None}
use Rattle.qs_base.specs.Words.{signed}
use Rattle.qs_memory.specs.Partial.{◌>>=◌, only_if}
use Rattle.qs_memory.specs.Scalars.{is_integer}
use Rattle.qs_memory.specs.declared.scalar.Scalar.{Scalar}
use Rattle.qs_memory.specs.declared.scalar.Scalar.TheVariants as scalars
use Rattle.qs_memory.specs.declared.operation.Signedness.{Signedness}
use Rattle.qs_memory.specs.declared.operation.Signedness.TheVariants.{Signed, Unsigned}
use Rattle.qs_memory.specs.declared.operation.Arithmetic.{Arithmetic}
use Rattle.qs_memory.specs.declared.operation.Arithmetic.TheVariants as arithmetics
use Rattle.qs_memory.specs.declared.operation.Comparison.{Comparison}
use Rattle.qs_memory.specs.declared.operation.Comparison.TheVariants as comparisons
use Rattle.qs_memory.specs.declared.operation.UnaryOperation.{UnaryOperation}
use Rattle.qs_memory.specs.declared.operation.UnaryOperation.TheVariants as unaries
use Rattle.qs_memory.specs.declared.operation.BinaryOperation.{BinaryOperation}
use Rattle.qs_memory.specs.declared.operation.BinaryOperation.TheVariants as binaries
use Rattle.qs_core.specs.Trees.{CoreExprTree, literal, null_pointer, variable, temporary, address_of, load, member}
use Rattle.qs_core.specs.Trees.{unary, binary, conversion, logical_and, logical_or, conditional}
use Rattle.qs_core.specs.Expressions.{type_of}
use Rattle.qs_core.specs.declared.term.TermOperation.{TermOperation}
use Rattle.qs_core.specs.declared.term.TermOperation.TheVariants.{Add, Subtract, Multiply}
use Rattle.qs_core.specs.declared.term.TermComparison.TheVariants.{Less, LessOrEqual, Equal, NotEqual}
use Rattle.qs_core.specs.TermTrees.{CoreTermTree, number, combined, quotient, wrapped}
use Rattle.qs_core.specs.TermTrees.{CoreConditionTree, compared, not, and, or}

-- ---- literals

-- the number that the 32 bits of a literal stand for
abbrev pub literal_value : Scalar → ℕ → ℤ
literal_value scalars.Char n = pos n
literal_value scalars.Int n = signed n
literal_value scalars.Unsigned n = pos n
literal_value scalars.Pointer n = pos n

-- the bits of an expression that is a literal
abbrev pub literal_of : CoreExprTree → Option ℕ
literal_of (literal s n) = Some n
literal_of null_pointer = None
literal_of (variable s x) = None
literal_of (temporary s k) = None
literal_of (address_of b) = None
literal_of (load s a) = None
literal_of (member offset a) = None
literal_of (unary op a) = None
literal_of (binary op a b) = None
literal_of (conversion s a) = None
literal_of (logical_and a b) = None
literal_of (logical_or a b) = None
literal_of (conditional c a b) = None

-- ---- operations

-- what it divides by, where it is at least 1
abbrev pub divisor : (bits : Option ℕ) → Option ℕ
divisor bits = bits >>= λ k. only_if (nat_le 1 k) (Some k)

-- the power of 2 by which a shift multiplies or divides, where the count is below 32
abbrev pub power : (bits : Option ℕ) → Option ℕ
power bits = bits >>= λ k. only_if (nat_lt k 32) (Some (2 ^ k))

abbrev pub is_unsigned : Signedness → Bool
is_unsigned Signed = false
is_unsigned Unsigned = true

-- the product with a number
abbrev pub times : CoreTermTree → ℕ → CoreTermTree
times t k = combined Multiply t (number (pos k))

-- what is left of t when it is divided by k
abbrev pub remainder_of : CoreTermTree → (k : ℕ) → CoreTermTree
remainder_of t k = combined Subtract t (combined Multiply (number (pos k)) (quotient t k))

-- a sum, difference or product
abbrev pub wrapped_both :
    TermOperation → Signedness → (left right : Option CoreTermTree) → Option CoreTermTree
wrapped_both op s left right = left >>= λ t. right >>= λ u. Some (wrapped s (combined op t u))

-- `unsigned` alone: a signed quotient is rounded toward zero
abbrev pub divided : Signedness → Option CoreTermTree → (by : Option ℕ) → Option CoreTermTree
divided s left by = only_if (is_unsigned s) (left >>= λ t. by >>= λ k. Some (quotient t k))

abbrev pub remainder : Signedness → Option CoreTermTree → (by : Option ℕ) → Option CoreTermTree
remainder s left by = only_if (is_unsigned s) (left >>= λ t. by >>= λ k. Some (remainder_of t k))

abbrev pub multiple : Signedness → Option CoreTermTree → (of : Option ℕ) → Option CoreTermTree
multiple s left of = left >>= λ t. of >>= λ k. Some (wrapped s (times t k))

-- from the terms of the operands, and the bits of the right one where it is a literal
abbrev pub arithmetic_term :
    Arithmetic → Signedness → (left right : Option CoreTermTree) → (bits : Option ℕ) → Option CoreTermTree
arithmetic_term arithmetics.Add s left right bits = wrapped_both Add s left right
arithmetic_term arithmetics.Subtract s left right bits = wrapped_both Subtract s left right
arithmetic_term arithmetics.Multiply s left right bits = wrapped_both Multiply s left right
arithmetic_term arithmetics.Divide s left right bits = divided s left (divisor bits)
arithmetic_term arithmetics.Remainder s left right bits = remainder s left (divisor bits)
arithmetic_term arithmetics.ShiftLeft s left right bits = multiple s left (power bits)
arithmetic_term arithmetics.ShiftRight s left right bits = divided s left (power bits)
arithmetic_term arithmetics.And s left right bits = None
arithmetic_term arithmetics.Or s left right bits = None
arithmetic_term arithmetics.Xor s left right bits = None

abbrev pub binary_term :
    BinaryOperation → (left right : Option CoreTermTree) → (bits : Option ℕ) → Option CoreTermTree
binary_term (binaries.Arithmetic op s) left right bits = arithmetic_term op s left right bits
binary_term (binaries.Compare op s) left right bits = None
binary_term (binaries.Move direction s element) left right bits = None
binary_term (binaries.Difference element) left right bits = None
binary_term (binaries.ComparePointers op) left right bits = None

abbrev pub negative : Signedness → Option CoreTermTree → Option CoreTermTree
negative s operand = operand >>= λ t. Some (wrapped s (combined Subtract (number (pos 0)) t))

abbrev pub unary_term : UnaryOperation → Option CoreTermTree → Option CoreTermTree
unary_term (unaries.Plus s) operand = operand
unary_term (unaries.Minus s) operand = negative s operand
unary_term (unaries.Complement s) operand = None
unary_term unaries.Not operand = None
unary_term unaries.Truth operand = None

-- every `char` is an `int` and an `unsigned`
abbrev pub from_char : (to : Scalar) → CoreTermTree → Option CoreTermTree
from_char to t = only_if (is_integer to) (Some t)

abbrev pub from_int : (to : Scalar) → CoreTermTree → Option CoreTermTree
from_int scalars.Char t = Some (remainder_of t 256)
from_int scalars.Int t = Some t
from_int scalars.Unsigned t = Some (wrapped Unsigned t)
from_int scalars.Pointer t = None

abbrev pub from_unsigned : (to : Scalar) → CoreTermTree → Option CoreTermTree
from_unsigned scalars.Char t = Some (remainder_of t 256)
from_unsigned scalars.Int t = Some (wrapped Signed t)
from_unsigned scalars.Unsigned t = Some t
from_unsigned scalars.Pointer t = None

abbrev pub converted_term : (from to : Scalar) → CoreTermTree → Option CoreTermTree
converted_term scalars.Char to t = from_char to t
converted_term scalars.Int to t = from_int to t
converted_term scalars.Unsigned to t = from_unsigned to t
converted_term scalars.Pointer to t = None

abbrev pub conversion_term : (from to : Scalar) → Option CoreTermTree → Option CoreTermTree
conversion_term from to operand = operand >>= converted_term from to

-- ---- terms

-- the term of a literal, a variable or a temporary of this type
abbrev pub if_integer : Scalar → CoreTermTree → Option CoreTermTree
if_integer s t = only_if (is_integer s) (Some t)

abbrev pub term_of : CoreExprTree → Option CoreTermTree
term_of (literal s n) = if_integer s (number (literal_value s n))
term_of null_pointer = None
term_of (variable s x) = if_integer s (CoreTermTree.variable s x)
term_of (temporary s k) = if_integer s (CoreTermTree.temporary s k)
term_of (address_of b) = None
term_of (load s a) = None
term_of (member offset a) = None
term_of (unary op a) = unary_term op (term_of a)
term_of (binary op a b) = binary_term op (term_of a) (term_of b) (literal_of b)
term_of (conversion s a) = conversion_term (type_of a) s (term_of a)
term_of (logical_and a b) = None
term_of (logical_or a b) = None
term_of (conditional c a b) = None

-- ---- conditions

abbrev pub comparison : Comparison → (t u : CoreTermTree) → CoreConditionTree
comparison comparisons.Less t u = compared Less t u
comparison comparisons.LessOrEqual t u = compared LessOrEqual t u
comparison comparisons.Greater t u = compared Less u t
comparison comparisons.GreaterOrEqual t u = compared LessOrEqual u t
comparison comparisons.Equal t u = compared Equal t u
comparison comparisons.NotEqual t u = compared NotEqual t u

-- a number that isn't 0
abbrev pub nonzero : Option CoreTermTree → Option CoreConditionTree
nonzero o = o >>= λ t. Some (compared NotEqual t (number (pos 0)))

abbrev pub comparison_of : Comparison → (left right : Option CoreTermTree) → Option CoreConditionTree
comparison_of op left right = left >>= λ t. right >>= λ u. Some (comparison op t u)

abbrev pub negation : Option CoreConditionTree → Option CoreConditionTree
negation operand = operand >>= λ c. Some (not c)

abbrev pub both : (left right : Option CoreConditionTree) → Option CoreConditionTree
both left right = left >>= λ c. right >>= λ d. Some (and c d)

abbrev pub either : (left right : Option CoreConditionTree) → Option CoreConditionTree
either left right = left >>= λ c. right >>= λ d. Some (or c d)

-- an expression that is no comparison and not made of conditions has the condition that it isn't 0
abbrev pub condition_of : CoreExprTree → Option CoreConditionTree
condition_of (literal s n) = nonzero (term_of (literal s n))
condition_of null_pointer = None
condition_of (variable s x) = nonzero (term_of (variable s x))
condition_of (temporary s k) = nonzero (term_of (temporary s k))
condition_of (address_of b) = None
condition_of (load s a) = None
condition_of (member offset a) = None
condition_of (unary (unaries.Plus s) a) = nonzero (term_of (unary (unaries.Plus s) a))
condition_of (unary (unaries.Minus s) a) = nonzero (term_of (unary (unaries.Minus s) a))
condition_of (unary (unaries.Complement s) a) = None
condition_of (unary unaries.Not a) = negation (condition_of a)
condition_of (unary unaries.Truth a) = None
condition_of (binary (binaries.Arithmetic op s) a b) =
    nonzero (term_of (binary (binaries.Arithmetic op s) a b))
condition_of (binary (binaries.Compare op s) a b) = comparison_of op (term_of a) (term_of b)
condition_of (binary (binaries.Move direction s element) a b) = None
condition_of (binary (binaries.Difference element) a b) = None
condition_of (binary (binaries.ComparePointers op) a b) = None
condition_of (conversion s a) = nonzero (term_of (conversion s a))
condition_of (logical_and a b) = both (condition_of a) (condition_of b)
condition_of (logical_or a b) = either (condition_of a) (condition_of b)
condition_of (conditional c a b) = None
