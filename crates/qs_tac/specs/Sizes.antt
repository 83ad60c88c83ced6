-- How many values a function has, how many words of arguments its calls pass on the stack, and a bound on the words of its
-- machine code: what each instruction is made of, where slots with low numbers are out of the reach of an immediate.
-- Registers that a function saves are in reach.
use Rattle.std.specs.Prelude.{ℕ, ◌+◌, ◌-◌, ◌*◌, ◌%◌, max, nat_lt, Bool, if◌then◌else◌, List, [], ◌∷◌, length, sum_by, Option, Some, None, unwrap_or}
use Rattle.qs_base.specs.Parameters.{stack_arguments, most_stack_arguments}
use Rattle.qs_memory.specs.Sizes.{blank_size}
use Rattle.qs_memory.specs.declared.operation.BinaryOperation.{BinaryOperation}
use Rattle.qs_memory.specs.declared.operation.BinaryOperation.TheVariants as binaries
use Rattle.qs_calls.specs.declared.callee.Callee.{Callee}
use Rattle.qs_calls.specs.declared.callee.Callee.TheVariants.{Function, PutChar, GetChar}
use Rattle.qs_calls.specs.declared.parameter.Parameter.{Parameter}
use Rattle.qs_calls.specs.declared.parameter.Parameter.TheVariants.{Plain, Placed}
use Rattle.qs_tac.specs.Trees.{InstructionTree, move, unary, binary, convert, address_of, load, store}
use Rattle.qs_tac.specs.Trees.{copy, fill, call, jump, branch, return, TacFunctionTree, TacUnitTree}
use Rattle.qs_tac.specs.declared.operands.Operand.{Operand}
use Rattle.qs_tac.specs.declared.operands.Operand.TheVariants.{Temporary, Integer, Byte, Constant, Null, Local, Data}
use Rattle.qs_tac.specs.declared.operands.Index.{Index}
use Rattle.qs_tac.specs.declared.operands.Address.{Address}
use Rattle.qs_tac.specs.declared.operands.Condition.{Condition}
use Rattle.qs_tac.specs.declared.operands.Condition.TheVariants.{NotZero, Zero, Compare, ComparePointers}

-- the values of a function: its temporaries, plain parameters among them
abbrev pub values : TacFunctionTree → ℕ
values f = f.temporaries

-- ---- arguments

abbrev pub arguments_of : InstructionTree → ℕ
arguments_of (move x o) = 0
arguments_of (unary op x o) = 0
arguments_of (binary op x o p) = 0
arguments_of (convert s x o) = 0
arguments_of (address_of x p) = 0
arguments_of (load s x p) = 0
arguments_of (store s p o) = 0
arguments_of (copy size alignment p q) = 0
arguments_of (fill blank p) = 0
arguments_of (call x g arguments) = length arguments
arguments_of (jump to) = 0
arguments_of (branch c to) = 0
arguments_of (return o) = 0

-- the most words of arguments that one instruction passes on the stack
abbrev pub most_passed : List InstructionTree → ℕ
most_passed [] = 0
most_passed (i ∷ code) = max (stack_arguments (arguments_of i)) (most_passed code)

-- ---- slots

-- the registers that a function gives back to its caller
abbrev pub saved_registers : ℕ
saved_registers = 12

-- an offset below this is in the reach of an immediate
abbrev pub reach : ℕ
reach = 2048

-- behind the arguments that are passed on the stack, the return address and the registers lie the slots, the last one
-- first: so the last ones are in reach even where all the registers are saved and a call has the most arguments
abbrev pub is_near : TacFunctionTree → (temporary : ℕ) → Bool
is_near f t = nat_lt (4 * (most_stack_arguments + saved_registers + (f.temporaries - t))) reach

-- so many
abbrev pub near_values : ℕ
near_values = 491

-- ---- words

-- LW, LBU or SW; LUI and ADD before it where the slot is out of reach; ANDI for the byte of a register
abbrev pub slot_words : TacFunctionTree → (temporary : ℕ) → ℕ
slot_words f t = if is_near f t then 1 else 3

-- ADDI, with LUI before it where the number is out of reach
abbrev pub constant_words : ℕ → ℕ
constant_words n = if nat_lt n reach then 1 else 2

-- what brings an operand into a register: LUI and ADDI for the address of data, ADD behind them for that of a
-- local
abbrev pub operand_words : TacFunctionTree → Operand → ℕ
operand_words f (Temporary t) = slot_words f t
operand_words f (Integer t) = slot_words f t
operand_words f (Byte t) = slot_words f t
operand_words f (Constant n) = constant_words n
operand_words f Null = 1
operand_words f (Local i) = 3
operand_words f (Data i) = 2

-- the low 12 bits of an address stand in the access itself: LUI for data, LUI and ADD for a local
abbrev pub base_words : TacFunctionTree → Operand → ℕ
base_words f (Temporary t) = slot_words f t
base_words f (Integer t) = slot_words f t
base_words f (Byte t) = slot_words f t
base_words f (Constant n) = constant_words n
base_words f Null = 1
base_words f (Local i) = 2
base_words f (Data i) = 1

-- an offset is one number with the address of a block; behind a pointer it takes LUI and ADD where it is
-- out of the reach of an immediate
abbrev pub offset_words : (base : Operand) → (offset : ℕ) → ℕ
offset_words (Local i) n = 0
offset_words (Data i) n = 0
offset_words o n = if nat_lt n reach then 0 else 2

-- LUI, ADDI and MUL with the size of an element, and ADD
abbrev pub index_words : TacFunctionTree → Option Index → ℕ
index_words f None = 0
index_words f (Some index) = operand_words f index.count + 4

abbrev pub index_offset : Option Index → ℕ
index_offset None = 0
index_offset (Some index) = unwrap_or index.offset 0

-- both offsets are one number
abbrev pub address_words : TacFunctionTree → Address → ℕ
address_words f p =
    base_words f p.base + index_words f p.index + offset_words p.base (unwrap_or p.offset 0 + index_offset p.index)

-- a comparison may take another word to turn its answer round; LUI and ADDI give the size of an element,
-- with MUL or DIV and ADD or SUB
abbrev pub operation_words : BinaryOperation → ℕ
operation_words (binaries.Arithmetic op s) = 1
operation_words (binaries.Compare op s) = 2
operation_words (binaries.Move direction s element) = 4
operation_words (binaries.Difference element) = 4
operation_words (binaries.ComparePointers op) = 2

-- JAL; the number of a call of the environment, and ECALL
abbrev pub callee_words : Callee → ℕ
callee_words (Function f) = 1
callee_words PutChar = 2
callee_words GetChar = 2

abbrev pub taken_words : TacFunctionTree → Option ℕ → ℕ
taken_words f None = 0
taken_words f (Some x) = slot_words f x

-- the inverted branch, and JAL
abbrev pub condition_words : TacFunctionTree → Condition → ℕ
condition_words f (NotZero o) = operand_words f o + 2
condition_words f (Zero o) = operand_words f o + 2
condition_words f (Compare op s o p) = operand_words f o + operand_words f p + 2
condition_words f (ComparePointers op o p) = operand_words f o + operand_words f p + 2

-- the return address, the saved registers, LUI, ADDI and ADD on x2, JALR
abbrev pub leave_words : ℕ
leave_words = 1 + saved_registers + 3 + 1

-- SW from the register of the argument, LUI and ADD before it where its place is out of reach
abbrev pub parameter_words : TacFunctionTree → Parameter → ℕ
parameter_words f (Plain x) = slot_words f x
parameter_words f (Placed i s) = 3

-- LUI, ADDI and ADD on x2, the return address, the saved registers, the parameters; LUI, ADD and LW for each that is passed
-- on the stack
abbrev pub enter_words : TacFunctionTree → ℕ
enter_words f = 3 + 1 + saved_registers + sum_by (parameter_words f) f.parameters + 3 * stack_arguments (length f.parameters)

abbrev pub returned_words : TacFunctionTree → Option Operand → ℕ
returned_words f None = 0
returned_words f (Some o) = operand_words f o

-- an access is one word behind its address. A copy's and a fill's count is LUI and ADDI; the loop of a copy
-- has six instructions, that of a fill four, and behind it stand the stores of the bytes that make no word. SW stores an
-- argument that is passed on the stack
abbrev pub instruction_words : TacFunctionTree → InstructionTree → ℕ
instruction_words f (move x o) = operand_words f o + slot_words f x
instruction_words f (unary op x o) = operand_words f o + 1 + slot_words f x
instruction_words f (binary op x o p) = operand_words f o + operand_words f p + operation_words op + slot_words f x
instruction_words f (convert s x o) = operand_words f o + 1 + slot_words f x
instruction_words f (address_of x p) = address_words f p + 1 + slot_words f x
instruction_words f (load s x p) = address_words f p + 1 + slot_words f x
instruction_words f (store s p o) = address_words f p + 1 + operand_words f o
instruction_words f (copy size alignment p q) = (address_words f p + 1) + (address_words f q + 1) + 2 + 6
instruction_words f (fill blank p) = address_words f p + 1 + 2 + 4 + blank_size blank % 4
instruction_words f (call x g arguments) =
    sum_by (operand_words f) arguments + stack_arguments (length arguments) + callee_words g + taken_words f x
instruction_words f (jump to) = 1
instruction_words f (branch c to) = condition_words f c
instruction_words f (return o) = returned_words f o + leave_words

abbrev pub words : TacFunctionTree → ℕ
words f = enter_words f + sum_by (instruction_words f) f.code

-- JAL to main, and behind it the number of a call of the environment, and ECALL
abbrev pub start_words : ℕ
start_words = 1 + 2

abbrev pub unit_words : TacUnitTree → ℕ
unit_words u = start_words + sum_by words u.functions
