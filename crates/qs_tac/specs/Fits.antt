-- What holds of every unit of linear code: temporaries, blocks, functions and indices of instructions have
-- numbers below their counts, each call has as many arguments as its callee has parameters, and constants,
-- offsets and sizes are in range.
use Rattle.std.specs.Prelude.{ℕ, ◌^◌, ◌==◌, ◌&&◌, nat_lt, nat_le, Bool, true, false, List, length, Option, Some, None}
use Rattle.std.specs.List.{slice_get, list_all}
use Rattle.qs_memory.specs.Sizes.{is_element, blank_size}
use Rattle.qs_memory.specs.declared.operation.BinaryOperation.{BinaryOperation}
use Rattle.qs_memory.specs.declared.operation.BinaryOperation.TheVariants as binaries
use Rattle.qs_calls.specs.declared.callee.Callee.{Callee}
use Rattle.qs_calls.specs.declared.callee.Callee.TheVariants.{Function, PutChar, GetChar}
use Rattle.qs_calls.specs.declared.parameter.Parameter.{Parameter}
use Rattle.qs_calls.specs.declared.parameter.Parameter.TheVariants.{Plain, Placed}
use Rattle.qs_tac.specs.Trees.{InstructionTree, move, unary, binary, convert, address_of, load, store}
use Rattle.qs_tac.specs.Trees.{copy, fill, call, jump, branch, return, TacFunctionTree, TacUnitTree}
use Rattle.qs_tac.specs.declared.units.TacData.{TacData}
use Rattle.qs_tac.specs.declared.operands.Operand.{Operand}
use Rattle.qs_tac.specs.declared.operands.Operand.TheVariants.{Temporary, Integer, Byte, Constant, Null, Local, Data}
use Rattle.qs_tac.specs.declared.operands.Index.{Index}
use Rattle.qs_tac.specs.declared.operands.Address.{Address}
use Rattle.qs_tac.specs.declared.operands.Condition.{Condition}
use Rattle.qs_tac.specs.declared.operands.Condition.TheVariants.{NotZero, Zero, Compare, ComparePointers}

-- ---- numbers

abbrev pub is_word : ℕ → Bool
is_word n = nat_lt n (2 ^ 32)

-- ---- operands

abbrev pub operand_fits : TacUnitTree → TacFunctionTree → Operand → Bool
operand_fits u f (Temporary t) = nat_lt t f.temporaries
operand_fits u f (Integer t) = nat_lt t f.temporaries
operand_fits u f (Byte t) = nat_lt t f.temporaries
operand_fits u f (Constant n) = is_word n
operand_fits u f Null = true
operand_fits u f (Local i) = nat_lt i (length f.blocks)
operand_fits u f (Data i) = nat_lt i (length u.data_blocks)

abbrev pub option_fits : TacUnitTree → TacFunctionTree → Option Operand → Bool
option_fits u f None = true
option_fits u f (Some o) = operand_fits u f o

abbrev pub offset_fits : Option ℕ → Bool
offset_fits None = true
offset_fits (Some n) = is_word n

abbrev pub index_fits : TacUnitTree → TacFunctionTree → Option Index → Bool
index_fits u f None = true
index_fits u f (Some index) = operand_fits u f index.count && is_element index.element && offset_fits index.offset

abbrev pub address_fits : TacUnitTree → TacFunctionTree → Address → Bool
address_fits u f p = operand_fits u f p.base && index_fits u f p.index && offset_fits p.offset

abbrev pub condition_fits : TacUnitTree → TacFunctionTree → Condition → Bool
condition_fits u f (NotZero o) = operand_fits u f o
condition_fits u f (Zero o) = operand_fits u f o
condition_fits u f (Compare op s o p) = operand_fits u f o && operand_fits u f p
condition_fits u f (ComparePointers op o p) = operand_fits u f o && operand_fits u f p

-- ---- instructions

abbrev pub operation_fits : BinaryOperation → Bool
operation_fits (binaries.Arithmetic op s) = true
operation_fits (binaries.Compare op s) = true
operation_fits (binaries.Move direction s element) = is_element element
operation_fits (binaries.Difference element) = is_element element
operation_fits (binaries.ComparePointers op) = true

abbrev pub takes : Option TacFunctionTree → (arguments : List Operand) → Bool
takes None arguments = false
takes (Some g) arguments = length arguments == length g.parameters

abbrev pub callee_fits : TacUnitTree → Callee → (arguments : List Operand) → Bool
callee_fits u (Function g) arguments = takes (slice_get u.functions g.0) arguments
callee_fits u PutChar arguments = length arguments == 1
callee_fits u GetChar arguments = length arguments == 0

abbrev pub taken_fits : TacFunctionTree → Option ℕ → Bool
taken_fits f None = true
taken_fits f (Some x) = nat_lt x f.temporaries

abbrev pub instruction_fits : TacUnitTree → TacFunctionTree → InstructionTree → Bool
instruction_fits u f (move x o) = nat_lt x f.temporaries && operand_fits u f o
instruction_fits u f (unary op x o) = nat_lt x f.temporaries && operand_fits u f o
instruction_fits u f (binary op x o p) =
    nat_lt x f.temporaries && operand_fits u f o && operand_fits u f p && operation_fits op
instruction_fits u f (convert s x o) = nat_lt x f.temporaries && operand_fits u f o
instruction_fits u f (address_of x p) = nat_lt x f.temporaries && address_fits u f p
instruction_fits u f (load s x p) = nat_lt x f.temporaries && address_fits u f p
instruction_fits u f (store s p o) = address_fits u f p && operand_fits u f o
instruction_fits u f (copy size alignment p q) =
    is_word size && nat_le 1 alignment && address_fits u f p && address_fits u f q
instruction_fits u f (fill blank p) = is_word (blank_size blank) && address_fits u f p
instruction_fits u f (call x g arguments) =
    taken_fits f x && callee_fits u g arguments && list_all (operand_fits u f) arguments
instruction_fits u f (jump to) = nat_lt to (length f.code)
instruction_fits u f (branch c to) = condition_fits u f c && nat_lt to (length f.code)
instruction_fits u f (return o) = option_fits u f o

-- ---- units

abbrev pub parameter_fits : TacFunctionTree → Parameter → Bool
parameter_fits f (Plain x) = nat_lt x f.temporaries
parameter_fits f (Placed i s) = nat_lt i (length f.blocks)

abbrev pub function_fits : TacUnitTree → TacFunctionTree → Bool
function_fits u f =
    list_all (parameter_fits f) f.parameters && list_all is_word f.blocks
    && list_all (instruction_fits u f) f.code

abbrev pub data_fits : TacData → Bool
data_fits d = is_word d.size

abbrev pub unit_fits : TacUnitTree → Bool
unit_fits u =
    list_all (function_fits u) u.functions && nat_lt u.main (length u.functions)
    && list_all data_fits u.data_blocks
