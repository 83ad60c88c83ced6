-- Which expressions are operands as they stand, so that they need no instruction.
use Rattle.std.specs.Prelude.{ℕ, ◌*◌, ◌%◌, ◌^◌, ◌==◌, ◌&&◌, nat_lt, not, Bool, true, false, if◌then◌else◌, Option, Some, None}
use Rattle.qs_memory.specs.Partial.{◌>>=◌, only_if}
use Rattle.qs_memory.specs.Integers.{calculate, compares, minus, complement}
use Rattle.qs_memory.specs.Scalars.{is_integer, is_pointer}
use Rattle.qs_memory.specs.declared.scalar.Scalar.{Scalar}
use Rattle.qs_memory.specs.declared.scalar.Scalar.TheVariants as scalars
use Rattle.qs_memory.specs.declared.operation.Signedness.{Signedness}
use Rattle.qs_memory.specs.declared.operation.Signedness.TheVariants.{Signed, Unsigned}
use Rattle.qs_memory.specs.declared.operation.Direction.TheVariants.{Up, Down}
use Rattle.qs_memory.specs.declared.operation.Arithmetic.TheVariants as arithmetics
use Rattle.qs_memory.specs.declared.operation.UnaryOperation.{UnaryOperation}
use Rattle.qs_memory.specs.declared.operation.UnaryOperation.TheVariants as unaries
use Rattle.qs_memory.specs.declared.operation.BinaryOperation.{BinaryOperation}
use Rattle.qs_memory.specs.declared.operation.BinaryOperation.TheVariants as binaries
use Rattle.qs_core.specs.Trees.{CoreExprTree, literal, null_pointer, variable, temporary, address_of, load, member}
use Rattle.qs_core.specs.Trees.{unary, binary, conversion, logical_and, logical_or, conditional}
use Rattle.qs_core.specs.declared.numbers.BlockId.{BlockId}
use Rattle.qs_core.specs.declared.numbers.BlockId.TheVariants as blocks
use Rattle.qs_tac.specs.Operands.{is_constant}
use Rattle.qs_tac.specs.declared.operands.Operand.{Operand}
use Rattle.qs_tac.specs.declared.operands.Operand.TheVariants.{Temporary, Integer, Byte, Constant, Null, Local, Data}
use Rattle.qs_tac.specs.Fits.{is_word}

-- ---- constants

abbrev pub constant : Operand → Option ℕ
constant (Constant n) = Some n
constant (Temporary t) = None
constant (Integer t) = None
constant (Byte t) = None
constant Null = None
constant (Local i) = None
constant (Data i) = None

abbrev pub on_constant : (ℕ → ℕ) → Operand → Option Operand
on_constant f o = constant o >>= λ n. Some (Constant (f n))

-- ---- conversions of operands

-- 6.3.1.1p2, 6.3.1.3: to `int` and to `unsigned`
abbrev pub integer_operand : Operand → Option Operand
integer_operand (Temporary t) = Some (Integer t)
integer_operand (Integer t) = Some (Integer t)
integer_operand (Byte t) = Some (Byte t)
integer_operand (Constant n) = Some (Constant n)
integer_operand Null = None
integer_operand (Local i) = None
integer_operand (Data i) = None

-- 6.3.1.3p2: to `char`
abbrev pub byte_operand : Operand → Option Operand
byte_operand (Temporary t) = Some (Byte t)
byte_operand (Integer t) = Some (Byte t)
byte_operand (Byte t) = Some (Byte t)
byte_operand (Constant n) = Some (Constant (n % 2 ^ 8))
byte_operand Null = None
byte_operand (Local i) = None
byte_operand (Data i) = None

-- 6.3.2.3: to another type of pointer
abbrev pub pointer_operand : Operand → Option Operand
pointer_operand (Temporary t) = None
pointer_operand (Integer t) = None
pointer_operand (Byte t) = None
pointer_operand (Constant n) = None
pointer_operand Null = Some Null
pointer_operand (Local i) = Some (Local i)
pointer_operand (Data i) = Some (Data i)

abbrev pub converted : Scalar → Operand → Option Operand
converted scalars.Char o = byte_operand o
converted scalars.Int o = integer_operand o
converted scalars.Unsigned o = integer_operand o
converted scalars.Pointer o = pointer_operand o

-- 6.5.3.3p5, 6.8.4.1p2: whether a scalar differs from 0, where that is known
abbrev pub truth_of : Operand → Option Bool
truth_of (Constant n) = Some (not (n == 0))
truth_of Null = Some false
truth_of (Temporary t) = None
truth_of (Integer t) = None
truth_of (Byte t) = None
truth_of (Local i) = None
truth_of (Data i) = None

abbrev pub truth_operand : Bool → Operand
truth_operand b = Constant (if b then 1 else 0)

-- 6.5.3.3
abbrev pub unary_of : UnaryOperation → Operand → Option Operand
unary_of (unaries.Plus s) o = integer_operand o
unary_of (unaries.Minus s) o = on_constant minus o
unary_of (unaries.Complement s) o = on_constant complement o
unary_of unaries.Not o = truth_of o >>= λ b. Some (truth_operand (not b))
unary_of unaries.Truth o = truth_of o >>= λ b. Some (truth_operand b)

abbrev pub constant_of : Option ℕ → Option Operand
constant_of n = n >>= λ k. Some (Constant k)

-- 6.5.5 to 6.5.12, 6.6: of two constants, where it is defined
abbrev pub binary_of : BinaryOperation → (left right : ℕ) → Option Operand
binary_of (binaries.Arithmetic op s) m n = constant_of (calculate op s m n)
binary_of (binaries.Compare op s) m n = Some (truth_operand (compares op s m n))
binary_of (binaries.Move direction s element) m n = None
binary_of (binaries.Difference element) m n = None
binary_of (binaries.ComparePointers op) m n = None

abbrev pub folded : BinaryOperation → (left right : Option Operand) → Option Operand
folded op a b = a >>= λ o. b >>= λ p. constant o >>= λ m. constant p >>= λ n. binary_of op m n

-- of an operand, if there is one
abbrev pub unary_of_option : UnaryOperation → Option Operand → Option Operand
unary_of_option op o = o >>= unary_of op

abbrev pub converted_option : Scalar → Option Operand → Option Operand
converted_option s o = o >>= converted s

abbrev pub block_operand : BlockId → Operand
block_operand (blocks.Local i) = Local i
block_operand (blocks.Data i) = Data i

-- ---- what an expression gives, where it gives a value

-- an integer, whatever variables hold
abbrev pub operation_gives_integer : BinaryOperation → Bool
operation_gives_integer (binaries.Arithmetic op s) = true
operation_gives_integer (binaries.Compare op s) = true
operation_gives_integer (binaries.Move direction s element) = false
operation_gives_integer (binaries.Difference element) = true
operation_gives_integer (binaries.ComparePointers op) = true

abbrev pub gives_integer : CoreExprTree → Bool
gives_integer (literal s n) = true
gives_integer null_pointer = false
gives_integer (variable s x) = false
gives_integer (temporary s k) = false
gives_integer (address_of b) = false
gives_integer (load s a) = is_integer s
gives_integer (member offset a) = false
gives_integer (unary op a) = true
gives_integer (binary op a b) = operation_gives_integer op
gives_integer (conversion s a) = is_integer s
gives_integer (logical_and a b) = true
gives_integer (logical_or a b) = true
gives_integer (conditional c a b) = gives_integer a && gives_integer b

abbrev pub gives_pointer : CoreExprTree → Bool
gives_pointer (literal s n) = false
gives_pointer null_pointer = true
gives_pointer (variable s x) = false
gives_pointer (temporary s k) = false
gives_pointer (address_of b) = true
gives_pointer (load s a) = is_pointer s
gives_pointer (member offset a) = true
gives_pointer (unary op a) = false
gives_pointer (binary op a b) = not (operation_gives_integer op)
gives_pointer (conversion s a) = is_pointer s
gives_pointer (logical_and a b) = false
gives_pointer (logical_or a b) = false
gives_pointer (conditional c a b) = gives_pointer a && gives_pointer b

-- 6.5.3.3p5, 6.5.8p6, 6.5.9p3, 6.5.13p3, 6.5.14p3: 1 or 0
abbrev pub operation_gives_truth : BinaryOperation → Bool
operation_gives_truth (binaries.Arithmetic op s) = false
operation_gives_truth (binaries.Compare op s) = true
operation_gives_truth (binaries.Move direction s element) = false
operation_gives_truth (binaries.Difference element) = false
operation_gives_truth (binaries.ComparePointers op) = true

abbrev pub unary_gives_truth : UnaryOperation → Bool
unary_gives_truth (unaries.Plus s) = false
unary_gives_truth (unaries.Minus s) = false
unary_gives_truth (unaries.Complement s) = false
unary_gives_truth unaries.Not = true
unary_gives_truth unaries.Truth = true

abbrev pub gives_truth : CoreExprTree → Bool
gives_truth (literal s n) = nat_lt n 2
gives_truth null_pointer = false
gives_truth (variable s x) = false
gives_truth (temporary s k) = false
gives_truth (address_of b) = false
gives_truth (load s a) = false
gives_truth (member offset a) = false
gives_truth (unary op a) = unary_gives_truth op
gives_truth (binary op a b) = operation_gives_truth op
gives_truth (conversion s a) = is_integer s && gives_truth a
gives_truth (logical_and a b) = true
gives_truth (logical_or a b) = true
gives_truth (conditional c a b) = gives_truth a && gives_truth b

-- the conversion changes nothing
abbrev pub is_idle : Scalar → CoreExprTree → Bool
is_idle scalars.Char a = gives_truth a
is_idle scalars.Int a = gives_integer a
is_idle scalars.Unsigned a = gives_integer a
is_idle scalars.Pointer a = gives_pointer a

-- ---- address arithmetic with constants

-- 6.5.6p8: so many elements up, as the type of the integer reads it
abbrev pub is_upward : Signedness → ℕ → Bool
is_upward Signed n = nat_lt n (2 ^ 31)
is_upward Unsigned n = true

-- their bytes, where these are a word
abbrev pub bytes_of : Signedness → (count element : ℕ) → Option ℕ
bytes_of s n element = only_if (is_upward s n && is_word (n * element)) (Some (n * element))

abbrev pub upward_step : Signedness → (element : ℕ) → (right : Option Operand) → Option ℕ
upward_step s element right = right >>= λ o. constant o >>= λ n. bytes_of s n element

-- the bytes by which an operation moves its left operand up, where these are a constant
abbrev pub constant_step : BinaryOperation → (right : Option Operand) → Option ℕ
constant_step (binaries.Arithmetic op s) right = None
constant_step (binaries.Compare op s) right = None
constant_step (binaries.Move Up s element) right = upward_step s element right
constant_step (binaries.Move Down s element) right = None
constant_step (binaries.Difference element) right = None
constant_step (binaries.ComparePointers op) right = None

-- ---- constants stand on the right, where an instruction takes them

abbrev pub commutes : BinaryOperation → Bool
commutes (binaries.Arithmetic arithmetics.Add s) = true
commutes (binaries.Arithmetic arithmetics.Subtract s) = false
commutes (binaries.Arithmetic arithmetics.Multiply s) = true
commutes (binaries.Arithmetic arithmetics.Divide s) = false
commutes (binaries.Arithmetic arithmetics.Remainder s) = false
commutes (binaries.Arithmetic arithmetics.ShiftLeft s) = false
commutes (binaries.Arithmetic arithmetics.ShiftRight s) = false
commutes (binaries.Arithmetic arithmetics.And s) = true
commutes (binaries.Arithmetic arithmetics.Or s) = true
commutes (binaries.Arithmetic arithmetics.Xor s) = true
commutes (binaries.Compare op s) = false
commutes (binaries.Move direction s element) = false
commutes (binaries.Difference element) = false
commutes (binaries.ComparePointers op) = false

abbrev pub swaps : BinaryOperation → (left : Operand) → Bool
swaps op left = commutes op && is_constant left
