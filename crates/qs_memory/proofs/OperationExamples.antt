-- Operations and conversions, computed from the definitions: each operator beside its neighbours, and what is just defined and just undefined.
-- 4294967295 is the `int` -1, 2147483648 the least one.
use Rattle.std.proofs.Common.{ℕ, [], ◌∷◌, List, Option, refl}
use Rattle.qs_memory.specs.Values.{Value, integer, address, null, into, convert}
use Rattle.qs_memory.specs.Operations.{apply_unary, apply_binary}
use Rattle.qs_memory.specs.declared.scalar.Scalar.TheVariants as scalars
use Rattle.qs_memory.specs.declared.operation.Signedness.{Signedness}
use Rattle.qs_memory.specs.declared.operation.Signedness.TheVariants.{Signed, Unsigned}
use Rattle.qs_memory.specs.declared.operation.Arithmetic.{Arithmetic}
use Rattle.qs_memory.specs.declared.operation.Arithmetic.TheVariants.{Add, Subtract, Multiply, Divide, Remainder, ShiftLeft, ShiftRight, And, Or, Xor}
use Rattle.qs_memory.specs.declared.operation.Comparison.{Comparison}
use Rattle.qs_memory.specs.declared.operation.Comparison.TheVariants.{Less, LessOrEqual, Greater, GreaterOrEqual, Equal, NotEqual}
use Rattle.qs_memory.specs.declared.operation.Direction.TheVariants.{Up}
use Rattle.qs_memory.specs.declared.operation.UnaryOperation.TheVariants as unaries
use Rattle.qs_memory.specs.declared.operation.BinaryOperation.TheVariants as binaries
use Rattle.qs_memory.proofs.Tables.{◌gives◌, Holds, word, at, null_pointer, undefined, yes, not_so}

-- ---- integers

abbrev result : Arithmetic → Signedness → ℕ → ℕ → Option Value
result op s x y = apply_binary (binaries.Arithmetic op s) [] (integer x) (integer y)

-- 29 is 11101 and 3 is 00011: no two operators give the same, nor do the operands exchanged
each_operator :
    Holds (
    (result Add Signed 29 3 gives word 32)
    ∷ (result Subtract Signed 29 3 gives word 26)
    ∷ (result Multiply Signed 29 3 gives word 87)
    ∷ (result Divide Signed 29 3 gives word 9)
    ∷ (result Remainder Signed 29 3 gives word 2)
    ∷ (result ShiftLeft Signed 29 3 gives word 232)
    ∷ (result ShiftRight Signed 29 3 gives word 3)
    ∷ (result And Signed 29 3 gives word 1)
    ∷ (result Or Signed 29 3 gives word 31)
    ∷ (result Xor Signed 29 3 gives word 30)
    ∷ (result Add Unsigned 29 3 gives word 32)
    ∷ (result Subtract Unsigned 29 3 gives word 26)
    ∷ (result Multiply Unsigned 29 3 gives word 87)
    ∷ (result Divide Unsigned 29 3 gives word 9)
    ∷ (result Remainder Unsigned 29 3 gives word 2)
    ∷ (result ShiftLeft Unsigned 29 3 gives word 232)
    ∷ (result ShiftRight Unsigned 29 3 gives word 3)
    ∷ (result And Unsigned 29 3 gives word 1)
    ∷ (result Or Unsigned 29 3 gives word 31)
    ∷ (result Xor Unsigned 29 3 gives word 30)
    ∷ [])
each_operator = refl

operators_wrap :
    Holds (
    (result Add Signed 2147483647 1 gives word 2147483648)
    ∷ (result Add Unsigned 4294967295 2 gives word 1)
    ∷ (result Subtract Signed 2147483648 1 gives word 2147483647)
    ∷ (result Subtract Unsigned 0 1 gives word 4294967295)
    ∷ (result Multiply Signed 65536 65537 gives word 65536)
    ∷ (result Multiply Unsigned 4294967295 4294967295 gives word 1)
    ∷ (result ShiftLeft Signed 3 31 gives word 2147483648)
    ∷ (result ShiftLeft Unsigned 4294967295 1 gives word 4294967294)
    ∷ [])
operators_wrap = refl

-- -7 / 2 is -3 and leaves -1, 7 / -2 is -3 and leaves 1
signs :
    Holds (
    (result Divide Signed 4294967289 2 gives word 4294967293)
    ∷ (result Remainder Signed 4294967289 2 gives word 4294967295)
    ∷ (result Divide Signed 7 4294967294 gives word 4294967293)
    ∷ (result Remainder Signed 7 4294967294 gives word 1)
    ∷ (result Divide Unsigned 4294967289 2 gives word 2147483644)
    ∷ (result Remainder Unsigned 4294967289 2 gives word 1)
    ∷ (result ShiftRight Signed 4294967288 1 gives word 4294967292)
    ∷ (result ShiftRight Unsigned 4294967288 1 gives word 2147483644)
    ∷ [])
signs = refl

-- undefined 2
quotients :
    Holds (
    (result Divide Signed 5 0 gives undefined)
    ∷ (result Divide Unsigned 5 0 gives undefined)
    ∷ (result Remainder Signed 5 0 gives undefined)
    ∷ (result Remainder Unsigned 5 0 gives undefined)
    ∷ (result Divide Signed 2147483648 4294967295 gives undefined)
    ∷ (result Remainder Signed 2147483648 4294967295 gives undefined)
    ∷ (result Divide Unsigned 2147483648 4294967295 gives word 0)
    ∷ (result Remainder Unsigned 2147483648 4294967295 gives word 2147483648)
    ∷ (result Divide Signed 2147483649 4294967295 gives word 2147483647)
    ∷ (result Remainder Signed 2147483649 4294967295 gives word 0)
    ∷ (result Divide Signed 2147483648 1 gives word 2147483648)
    ∷ (result Divide Signed 0 5 gives word 0)
    ∷ [])
quotients = refl

-- undefined 3
shifts :
    Holds (
    (result ShiftLeft Signed 1 31 gives word 2147483648)
    ∷ (result ShiftLeft Signed 1 32 gives undefined)
    ∷ (result ShiftLeft Unsigned 1 4294967295 gives undefined)
    ∷ (result ShiftRight Signed 2147483648 31 gives word 4294967295)
    ∷ (result ShiftRight Unsigned 2147483648 31 gives word 1)
    ∷ (result ShiftRight Unsigned 1 32 gives undefined)
    ∷ (result ShiftRight Signed 1 4294967295 gives undefined)
    ∷ (result ShiftLeft Signed 1 0 gives word 1)
    ∷ [])
shifts = refl

-- ---- comparisons

-- 1 with 2, 2 with 2, 2 with 1, -1 or 4294967295 with 0, and 0 with that
abbrev compared : Comparison → Signedness → List (Option Value)
compared op s = on 1 2 ∷ on 2 2 ∷ on 2 1 ∷ on 4294967295 0 ∷ on 0 4294967295 ∷ []
  where
    on : ℕ → ℕ → Option Value
    on x y = apply_binary (binaries.Compare op s) [] (integer x) (integer y)

each_comparison :
    Holds (
    (compared Less Signed gives (yes ∷ not_so ∷ not_so ∷ yes ∷ not_so ∷ []))
    ∷ (compared LessOrEqual Signed gives (yes ∷ yes ∷ not_so ∷ yes ∷ not_so ∷ []))
    ∷ (compared Greater Signed gives (not_so ∷ not_so ∷ yes ∷ not_so ∷ yes ∷ []))
    ∷ (compared GreaterOrEqual Signed gives (not_so ∷ yes ∷ yes ∷ not_so ∷ yes ∷ []))
    ∷ (compared Equal Signed gives (not_so ∷ yes ∷ not_so ∷ not_so ∷ not_so ∷ []))
    ∷ (compared NotEqual Signed gives (yes ∷ not_so ∷ yes ∷ yes ∷ yes ∷ []))
    ∷ (compared Less Unsigned gives (yes ∷ not_so ∷ not_so ∷ not_so ∷ yes ∷ []))
    ∷ (compared LessOrEqual Unsigned gives (yes ∷ yes ∷ not_so ∷ not_so ∷ yes ∷ []))
    ∷ (compared Greater Unsigned gives (not_so ∷ not_so ∷ yes ∷ yes ∷ not_so ∷ []))
    ∷ (compared GreaterOrEqual Unsigned gives (not_so ∷ yes ∷ yes ∷ yes ∷ not_so ∷ []))
    ∷ (compared Equal Unsigned gives (not_so ∷ yes ∷ not_so ∷ not_so ∷ not_so ∷ []))
    ∷ (compared NotEqual Unsigned gives (yes ∷ not_so ∷ yes ∷ yes ∷ yes ∷ []))
    ∷ [])
each_comparison = refl

-- ---- operations on one value

each_unary :
    Holds (
    (apply_unary (unaries.Plus Signed) [] (integer 4294967291) gives word 4294967291)
    ∷ (apply_unary (unaries.Minus Signed) [] (integer 5) gives word 4294967291)
    ∷ (apply_unary (unaries.Minus Unsigned) [] (integer 0) gives word 0)
    ∷ (apply_unary (unaries.Minus Signed) [] (integer 2147483648) gives word 2147483648)
    ∷ (apply_unary (unaries.Complement Signed) [] (integer 5) gives word 4294967290)
    ∷ (apply_unary (unaries.Complement Unsigned) [] (integer 4294967295) gives word 0)
    ∷ (apply_unary unaries.Not [] (integer 5) gives word 0)
    ∷ (apply_unary unaries.Not [] (integer 0) gives word 1)
    ∷ (apply_unary unaries.Truth [] (integer 5) gives word 1)
    ∷ (apply_unary unaries.Truth [] (integer 0) gives word 0)
    ∷ (apply_unary unaries.Truth [] (integer 2147483648) gives word 1)
    ∷ [])
each_unary = refl

-- ---- conversions

each_conversion :
    Holds (
    (convert scalars.Char (integer 4294967295) gives word 255)
    ∷ (convert scalars.Char (integer 256) gives word 0)
    ∷ (convert scalars.Char (integer 200) gives word 200)
    ∷ (convert scalars.Int (integer 4294967295) gives word 4294967295)
    ∷ (convert scalars.Unsigned (integer 4294967295) gives word 4294967295)
    ∷ (convert scalars.Pointer (integer 0) gives null_pointer)
    ∷ (convert scalars.Pointer (integer 1) gives undefined)
    ∷ (convert scalars.Pointer (address (into 3 4)) gives at 3 4)
    ∷ (convert scalars.Pointer (address null) gives null_pointer)
    ∷ (convert scalars.Char (address null) gives undefined)
    ∷ (convert scalars.Int (address null) gives undefined)
    ∷ (convert scalars.Unsigned (address null) gives undefined)
    ∷ [])
each_conversion = refl

-- ---- operands of another kind

other_kinds :
    Holds (
    (apply_unary (unaries.Plus Signed) [] (address null) gives undefined)
    ∷ (apply_unary (unaries.Minus Signed) [] (address null) gives undefined)
    ∷ (apply_unary (unaries.Complement Signed) [] (address null) gives undefined)
    ∷ (apply_binary (binaries.Arithmetic Add Signed) [] (address null) (integer 1) gives undefined)
    ∷ (apply_binary (binaries.Arithmetic Add Signed) [] (integer 1) (address null) gives undefined)
    ∷ (apply_binary (binaries.Compare Equal Signed) [] (address null) (integer 0) gives undefined)
    ∷ (apply_binary (binaries.Compare Equal Signed) [] (integer 0) (address null) gives undefined)
    ∷ (apply_binary (binaries.Move Up Signed 1) [] (integer 0) (integer 0) gives undefined)
    ∷ (apply_binary (binaries.Move Up Signed 1) [] (address null) (address null) gives undefined)
    ∷ (apply_binary (binaries.Difference 1) [] (integer 0) (address null) gives undefined)
    ∷ (apply_binary (binaries.Difference 1) [] (address null) (integer 0) gives undefined)
    ∷ (apply_binary (binaries.ComparePointers Equal) [] (integer 0) (address null) gives undefined)
    ∷ (apply_binary (binaries.ComparePointers Equal) [] (address null) (integer 0) gives undefined)
    ∷ [])
other_kinds = refl
