-- The code of operations. rd gets the result and may be a register in which an operand stands: it is written by the last
-- instruction that reads operands, or behind it.
use Rattle.std.specs.Prelude.{ℕ, ◌*◌, ◌%◌, ◌^◌, ◌==◌, nat_lt, if◌then◌else◌}
use Rattle.std.specs.Prelude.{List, [], ◌∷◌, ◌++◌, Option, Some, None}
use Rattle.qs_base.specs.Words as words
use Rattle.qs_base.specs.Words.{all_ones}
use Rattle.qs_memory.specs.Partial.{◌>>=◌, only_if}
use Rattle.qs_memory.specs.declared.scalar.Scalar.{Scalar}
use Rattle.qs_memory.specs.declared.scalar.Scalar.TheVariants as scalars
use Rattle.qs_memory.specs.declared.operation.Signedness.{Signedness}
use Rattle.qs_memory.specs.declared.operation.Signedness.TheVariants.{Signed, Unsigned}
use Rattle.qs_memory.specs.declared.operation.Direction.{Direction}
use Rattle.qs_memory.specs.declared.operation.Direction.TheVariants.{Up, Down}
use Rattle.qs_memory.specs.declared.operation.Arithmetic.{Arithmetic}
use Rattle.qs_memory.specs.declared.operation.Arithmetic.TheVariants as arithmetics
use Rattle.qs_memory.specs.declared.operation.Comparison.{Comparison}
use Rattle.qs_memory.specs.declared.operation.Comparison.TheVariants as comparisons
use Rattle.qs_memory.specs.declared.operation.UnaryOperation.{UnaryOperation}
use Rattle.qs_memory.specs.declared.operation.UnaryOperation.TheVariants as unaries
use Rattle.qs_memory.specs.declared.operation.BinaryOperation.{BinaryOperation}
use Rattle.qs_memory.specs.declared.operation.BinaryOperation.TheVariants as binaries
use Rattle.qs_isa.specs.Registers.{x0, a0, a1, a2, a3}
use Rattle.qs_isa.specs.declared.instruction.Instr.{Instr}
use Rattle.qs_isa.specs.declared.instruction.Instr.TheVariants as instructions
use Rattle.qs_isa.specs.declared.instruction.OpKind.{OpKind}
use Rattle.qs_isa.specs.declared.instruction.OpKind.TheVariants as kinds
use Rattle.qs_tac.specs.declared.operands.Operand.{Operand}
use Rattle.qs_tac.specs.declared.operands.Operand.TheVariants.{Temporary, Integer, Byte, Constant, Null, Local, Data}
use Rattle.qs_emit_selection.specs.Pieces.{addi, andi, ori, xori, slti, sltiu, slli, srli, srai, add, sub, slt, sltu, div}
use Rattle.qs_emit_selection.specs.Pieces.{is_small, constant, product}
use Rattle.qs_emit_selection.specs.Operands.{Context, operand_code, operand_register}

-- ---- constants

abbrev pub constant_of : Operand → Option ℕ
constant_of (Temporary t) = None
constant_of (Integer t) = None
constant_of (Byte t) = None
constant_of (Constant n) = Some n
constant_of Null = None
constant_of (Local i) = None
constant_of (Data i) = None

-- a negative number is added where it is subtracted
abbrev pub negated : (word : ℕ) → ℕ
negated word = words.sub 0 word

abbrev pub if_small : (word : ℕ) → Instr → Option Instr
if_small word i = only_if (is_small word) (Some i)

-- one instruction for an operation with a constant on its right, where there is one
abbrev pub with_constant : Arithmetic → Signedness → (rd rs n : ℕ) → Option Instr
with_constant arithmetics.Add s rd rs n = if_small n (addi rd rs n)
with_constant arithmetics.Subtract s rd rs n = if_small (negated n) (addi rd rs (negated n))
with_constant arithmetics.Multiply s rd rs n = None
with_constant arithmetics.Divide s rd rs n = None
with_constant arithmetics.Remainder s rd rs n = None
with_constant arithmetics.ShiftLeft s rd rs n = only_if (nat_lt n 32) (Some (slli rd rs n))
with_constant arithmetics.ShiftRight Signed rd rs n = only_if (nat_lt n 32) (Some (srai rd rs n))
with_constant arithmetics.ShiftRight Unsigned rd rs n = only_if (nat_lt n 32) (Some (srli rd rs n))
with_constant arithmetics.And s rd rs n = if_small n (andi rd rs n)
with_constant arithmetics.Or s rd rs n = if_small n (ori rd rs n)
with_constant arithmetics.Xor s rd rs n = if_small n (xori rd rs n)

-- where the right operand is a constant
abbrev pub with_operand : Arithmetic → Signedness → (rd rs : ℕ) → (right : Operand) → Option Instr
with_operand op s rd rs right = constant_of right >>= with_constant op s rd rs

-- the one instruction, or the code that is given
abbrev pub or_code : Option Instr → List Instr → List Instr
or_code (Some i) code = i ∷ []
or_code None code = code

-- ---- integers

abbrev pub kind_of : Arithmetic → Signedness → OpKind
kind_of arithmetics.Add s = kinds.Add
kind_of arithmetics.Subtract s = kinds.Sub
kind_of arithmetics.Multiply s = kinds.Mul
kind_of arithmetics.Divide Signed = kinds.Div
kind_of arithmetics.Divide Unsigned = kinds.Divu
kind_of arithmetics.Remainder Signed = kinds.Rem
kind_of arithmetics.Remainder Unsigned = kinds.Remu
kind_of arithmetics.ShiftLeft s = kinds.Sll
kind_of arithmetics.ShiftRight Signed = kinds.Sra
kind_of arithmetics.ShiftRight Unsigned = kinds.Srl
kind_of arithmetics.And s = kinds.And
kind_of arithmetics.Or s = kinds.Or
kind_of arithmetics.Xor s = kinds.Xor

-- two operands in registers
abbrev pub both : Context → (x y : Operand) → List Instr
both c x y = operand_code c a0 x ++ operand_code c a1 y

-- an instruction on two operands in registers
abbrev pub on_both : Context → (x y : Operand) → (ℕ → ℕ → Instr) → List Instr
on_both c x y of = operand_code c a1 y ++ of (operand_register c a0 x) (operand_register c a1 y) ∷ []

abbrev pub arithmetic : Context → Arithmetic → Signedness → (rd : ℕ) → (x y : Operand) → List Instr
arithmetic c op s rd x y =
    operand_code c a0 x
    ++ or_code (with_operand op s rd (operand_register c a0 x) y)
    (on_both c x y (λ left right. instructions.Op (kind_of op s) rd left right))

-- ---- comparisons: rd becomes 1 or 0

abbrev pub less_than : Signedness → (rd left right : ℕ) → Instr
less_than Signed rd left right = slt rd left right
less_than Unsigned rd left right = sltu rd left right

abbrev pub less_than_constant : Signedness → (rd rs n : ℕ) → Option Instr
less_than_constant Signed rd rs n = if_small n (slti rd rs n)
less_than_constant Unsigned rd rs n = if_small n (sltiu rd rs n)

abbrev pub less_than_operand : Signedness → (rd rs : ℕ) → (right : Operand) → Option Instr
less_than_operand s rd rs right = constant_of right >>= less_than_constant s rd rs

abbrev pub less : Context → Signedness → (rd : ℕ) → (x y : Operand) → List Instr
less c s rd x y =
    operand_code c a0 x
    ++ or_code (less_than_operand s rd (operand_register c a0 x) y)
    (on_both c x y (λ left right. less_than s rd left right))

-- the answer is turned round
abbrev pub turned : (rd : ℕ) → List Instr → List Instr
turned rd code = code ++ xori rd rd 1 ∷ []

-- 0 where both are the same
abbrev pub apart : Context → (rd : ℕ) → (x y : Operand) → List Instr
apart c rd x y = arithmetic c arithmetics.Subtract Unsigned rd x y

abbrev pub compare : Context → Comparison → Signedness → (rd : ℕ) → (x y : Operand) → List Instr
compare c comparisons.Less s rd x y = less c s rd x y
compare c comparisons.Greater s rd x y = less c s rd y x
compare c comparisons.LessOrEqual s rd x y = turned rd (less c s rd y x)
compare c comparisons.GreaterOrEqual s rd x y = turned rd (less c s rd x y)
compare c comparisons.Equal s rd x y = apart c rd x y ++ sltiu rd rd 1 ∷ []
compare c comparisons.NotEqual s rd x y = apart c rd x y ++ sltu rd x0 rd ∷ []

-- ---- pointers

abbrev pub directed : Direction → (bytes : ℕ) → ℕ
directed Up bytes = bytes
directed Down bytes = negated bytes

abbrev pub step : Direction → (rd pointer bytes : ℕ) → Instr
step Up rd pointer bytes = add rd pointer bytes
step Down rd pointer bytes = sub rd pointer bytes

-- by a number of bytes that is known
abbrev pub move_by : (rd pointer bytes : ℕ) → List Instr
move_by rd pointer bytes =
    if is_small bytes then addi rd pointer bytes ∷ [] else constant a2 bytes ++ add rd pointer a2 ∷ []

-- by elements, their count in a register
abbrev pub move_by_elements : Direction → (rd pointer count element : ℕ) → List Instr
move_by_elements direction rd pointer count element =
    if element == 1 then step direction rd pointer count ∷ []
    else product a3 count element ++ step direction rd pointer a3 ∷ []

abbrev pub moved : Context → Direction → (element rd : ℕ) → (x y : Operand) → Option ℕ → List Instr
moved c direction element rd x y (Some n) =
    operand_code c a0 x ++ move_by rd (operand_register c a0 x) (directed direction (n * element % 2 ^ 32))
moved c direction element rd x y None =
    both c x y ++ move_by_elements direction rd (operand_register c a0 x) (operand_register c a1 y) element

abbrev pub elements_between : (element rd left right : ℕ) → List Instr
elements_between element rd left right =
    if element == 1 then sub rd left right ∷ []
    else sub a3 left right ∷ (constant a2 element ++ div rd a3 a2 ∷ [])

-- ---- all of them

abbrev pub binary : Context → BinaryOperation → (rd : ℕ) → (x y : Operand) → List Instr
binary c (binaries.Arithmetic op s) rd x y = arithmetic c op s rd x y
binary c (binaries.Compare op s) rd x y = compare c op s rd x y
binary c (binaries.Move direction s element) rd x y = moved c direction element rd x y (constant_of y)
binary c (binaries.Difference element) rd x y =
    both c x y ++ elements_between element rd (operand_register c a0 x) (operand_register c a1 y)
binary c (binaries.ComparePointers op) rd x y = compare c op Unsigned rd x y

abbrev pub unary_instruction : UnaryOperation → (rd rs : ℕ) → Instr
unary_instruction (unaries.Plus s) rd rs = addi rd rs 0
unary_instruction (unaries.Minus s) rd rs = sub rd x0 rs
unary_instruction (unaries.Complement s) rd rs = xori rd rs all_ones
unary_instruction unaries.Not rd rs = sltiu rd rs 1
unary_instruction unaries.Truth rd rs = sltu rd x0 rs

abbrev pub conversion : Scalar → (rd rs : ℕ) → Instr
conversion scalars.Char rd rs = andi rd rs 255
conversion scalars.Int rd rs = addi rd rs 0
conversion scalars.Unsigned rd rs = addi rd rs 0
conversion scalars.Pointer rd rs = addi rd rs 0
