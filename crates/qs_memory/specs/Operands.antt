-- The types of the operands that an operation takes (C11 6.5.3.3 to 6.5.9).
use Rattle.std.specs.Prelude.{◌&&◌, Bool, true, false}
use Rattle.qs_memory.specs.Sizes.{is_element}
use Rattle.qs_memory.specs.Operations.{integer_type}
use Rattle.qs_memory.specs.Scalars.{same_scalar, is_integer, is_pointer, is_promoted}
use Rattle.qs_memory.specs.declared.scalar.Scalar.{Scalar}
use Rattle.qs_memory.specs.declared.scalar.Scalar.TheVariants as scalars
use Rattle.qs_memory.specs.declared.operation.Signedness.{Signedness}
use Rattle.qs_memory.specs.declared.operation.Arithmetic.{Arithmetic}
use Rattle.qs_memory.specs.declared.operation.Arithmetic.TheVariants as arithmetics
use Rattle.qs_memory.specs.declared.operation.UnaryOperation.{UnaryOperation}
use Rattle.qs_memory.specs.declared.operation.UnaryOperation.TheVariants as unaries
use Rattle.qs_memory.specs.declared.operation.BinaryOperation.{BinaryOperation}
use Rattle.qs_memory.specs.declared.operation.BinaryOperation.TheVariants as binaries

-- 6.5.3.3: any scalar is tested for 0
abbrev pub unary_takes : UnaryOperation → Scalar → Bool
unary_takes (unaries.Plus s) t = same_scalar t (integer_type s)
unary_takes (unaries.Minus s) t = same_scalar t (integer_type s)
unary_takes (unaries.Complement s) t = same_scalar t (integer_type s)
unary_takes unaries.Not t = true
unary_takes unaries.Truth t = true

-- the right operand has the type of the left one, but that of a shift is promoted alone (6.5.7p3)
abbrev pub right_takes : Arithmetic → Signedness → Scalar → Bool
right_takes arithmetics.Add s t = same_scalar t (integer_type s)
right_takes arithmetics.Subtract s t = same_scalar t (integer_type s)
right_takes arithmetics.Multiply s t = same_scalar t (integer_type s)
right_takes arithmetics.Divide s t = same_scalar t (integer_type s)
right_takes arithmetics.Remainder s t = same_scalar t (integer_type s)
right_takes arithmetics.ShiftLeft s t = is_promoted t
right_takes arithmetics.ShiftRight s t = is_promoted t
right_takes arithmetics.And s t = same_scalar t (integer_type s)
right_takes arithmetics.Or s t = same_scalar t (integer_type s)
right_takes arithmetics.Xor s t = same_scalar t (integer_type s)

-- 6.5.5 to 6.5.12
abbrev pub binary_takes : BinaryOperation → (left right : Scalar) → Bool
binary_takes (binaries.Arithmetic op s) t u = same_scalar t (integer_type s) && right_takes op s u
binary_takes (binaries.Compare op s) t u =
    same_scalar t (integer_type s) && same_scalar u (integer_type s)
binary_takes (binaries.Move direction s element) t u =
    is_pointer t && same_scalar u (integer_type s) && is_element element
binary_takes (binaries.Difference element) t u = is_pointer t && is_pointer u && is_element element
binary_takes (binaries.ComparePointers op) t u = is_pointer t && is_pointer u

-- 6.5.4p2, p4: an integer becomes an integer; of a pointer nothing is converted, whatever it points to
abbrev pub conversion_takes : (to from : Scalar) → Bool
conversion_takes scalars.Char t = is_integer t
conversion_takes scalars.Int t = is_integer t
conversion_takes scalars.Unsigned t = is_integer t
conversion_takes scalars.Pointer t = false
