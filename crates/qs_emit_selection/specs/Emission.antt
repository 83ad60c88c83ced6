-- What each instruction of linear code becomes.
use Rattle.std.specs.Prelude.{ℕ, zero, suc, ◌+◌, ◌*◌, ◌-◌, ◌/◌, ◌%◌, ◌^◌, ◌==◌, ◌&&◌, nat_lt, Bool, true, false, if◌then◌else◌}
use Rattle.std.specs.Prelude.{List, [], ◌∷◌, ◌++◌, length, Option, Some, None, is_some, slice_index_or}
use Rattle.qs_base.specs.Parameters.{most_register_arguments, stack_arguments}
use Rattle.qs_memory.specs.Sizes.{blank_size}
use Rattle.qs_memory.specs.declared.operation.Signedness.{Signedness}
use Rattle.qs_memory.specs.declared.operation.Signedness.TheVariants.{Signed, Unsigned}
use Rattle.qs_memory.specs.declared.operation.Comparison.{Comparison}
use Rattle.qs_memory.specs.declared.operation.Comparison.TheVariants as comparisons
use Rattle.qs_calls.specs.declared.callee.Callee.{Callee}
use Rattle.qs_calls.specs.declared.callee.Callee.TheVariants.{Function, PutChar, GetChar}
use Rattle.qs_calls.specs.declared.parameter.Parameter.{Parameter}
use Rattle.qs_calls.specs.declared.parameter.Parameter.TheVariants.{Plain, Placed}
use Rattle.qs_isa.specs.EnvironmentCalls.{exit_call, put_byte_call, take_byte_call}
use Rattle.qs_isa.specs.Registers.{x0, ra, sp, a0, a1, a4, a5, a6, a7}
use Rattle.qs_isa.specs.declared.instruction.Instr.{Instr}
use Rattle.qs_isa.specs.declared.instruction.Instr.TheVariants as instructions
use Rattle.qs_isa.specs.declared.instruction.LoadKind.TheVariants.{Lw, Lbu}
use Rattle.qs_isa.specs.declared.instruction.StoreKind.TheVariants.{Sw, Sb}
use Rattle.qs_isa.specs.declared.instruction.BranchKind.TheVariants.{Beq, Bne, Blt, Bge, Bltu, Bgeu}
use Rattle.qs_asm.specs.declared.item.Item.{Item}
use Rattle.qs_asm.specs.declared.item.Item.TheVariants as items
use Rattle.qs_asm.specs.Items.{plain}
use Rattle.qs_tac.specs.Trees.{InstructionTree, move, unary, binary, convert, address_of, load, store}
use Rattle.qs_tac.specs.Trees.{copy, fill, call, jump, branch, return, TacFunctionTree, TacUnitTree}
use Rattle.qs_tac.specs.Places.{PlacesTree, place_of, no_places}
use Rattle.qs_tac.specs.declared.operands.Operand.{Operand}
use Rattle.qs_tac.specs.declared.operands.Condition.{Condition}
use Rattle.qs_tac.specs.declared.operands.Condition.TheVariants.{NotZero, Zero, Compare, ComparePointers}
use Rattle.qs_frames.specs.Layout.{argument_at, register_at}
use Rattle.qs_emit_selection.specs.Pieces as pieces
use Rattle.qs_emit_selection.specs.Pieces.{addi, jalr, load_kind, store_kind}
use Rattle.qs_emit_selection.specs.Pieces.{load_from, store_to, move_stack, copy_loop, fill_loop, zero_bytes}
use Rattle.qs_emit_selection.specs.Operands.{Context, frame_of, stored, local_offset, into, operand_code, operand_register}
use Rattle.qs_emit_selection.specs.Operands.{result_register, put, result_code, move_to, anchor_of, address_into, is_word_address}
use Rattle.qs_emit_selection.specs.Operations as operations
use Rattle.qs_emit_selection.specs.Operations.{both, unary_instruction, conversion}

-- ---- whole objects

-- word by word where the addresses are multiples of 4, else byte by byte
abbrev pub copy_code : (size alignment : ℕ) → List Instr
copy_code size alignment =
    if size == 0 then []
    else if size % 4 == 0 && alignment % 4 == 0 then copy_loop Lw Sw 4 size
    else copy_loop Lbu Sb 1 size

abbrev pub unless_none : (size : ℕ) → List Instr → List Instr
unless_none size code = if size == 0 then [] else code

abbrev pub fill_words : (size : ℕ) → List Instr
fill_words size = unless_none (size / 4) (fill_loop Sw 4 (size / 4 * 4))

-- words, and behind them the bytes that are left; or bytes alone
abbrev pub fill_code : (is_word_address : Bool) → (size : ℕ) → List Instr
fill_code true size = fill_words size ++ zero_bytes (size % 4) 0
fill_code false size = unless_none size (fill_loop Sb 1 size)

-- ---- entry and return

-- registers, one after the other into their words of the frame, and back in the other order; the words lie behind so many
-- bytes of arguments
abbrev pub save : (outgoing : ℕ) → List ℕ → (i : ℕ) → List Instr
save outgoing [] i = []
save outgoing (r ∷ registers) i = pieces.store Sw r sp (register_at outgoing i) ∷ save outgoing registers (i + 1)

abbrev pub restore : (outgoing : ℕ) → List ℕ → (i : ℕ) → List Instr
restore outgoing [] i = []
restore outgoing (r ∷ registers) i =
    restore outgoing registers (i + 1) ++ pieces.load Lw r sp (register_at outgoing i) ∷ []

-- a parameter, from the register in which its argument is passed
abbrev pub take_from_register : Context → (register : ℕ) → Parameter → List Instr
take_from_register c register (Plain x) = put c register x
take_from_register c register (Placed i s) = store_to (store_kind s) register (local_offset c i)

-- or from the word in which it is passed, at an offset behind x2
abbrev pub take_from_stack : Context → (offset : ℕ) → Parameter → List Instr
take_from_stack c offset (Plain x) = load_from Lw (result_register c x) offset ++ result_code c x
take_from_stack c offset (Placed i s) = load_from Lw a0 offset ++ store_to (store_kind s) a0 (local_offset c i)

-- The first eight arguments are passed in a0 to a7, and each further one in a word of the caller's frame, which lies behind
-- the function's own: the ninth in the first word of it (RISC-V ELF psABI, "Integer Calling Convention").
abbrev pub take_parameter : Context → (i : ℕ) → Parameter → List Instr
take_parameter c i p =
    if nat_lt i most_register_arguments then take_from_register c (a0 + i) p
    else take_from_stack c ((frame_of c).cost + argument_at (stack_arguments i)) p

abbrev pub take_parameters : Context → (i : ℕ) → List Parameter → List Instr
take_parameters c i [] = []
take_parameters c i (p ∷ parameters) = take_parameter c i p ++ take_parameters c (i + 1) parameters

abbrev pub enter : Context → List Instr
enter c =
    move_stack (2 ^ 32 - (frame_of c).cost)
    ++ (save (frame_of c).outgoing (stored c) 0 ++ take_parameters c 0 c.function.parameters)

abbrev pub leave : Context → List Instr
leave c =
    restore (frame_of c).outgoing (stored c) 0 ++ (move_stack (frame_of c).cost ++ jalr x0 ra 0 ∷ [])

-- the result of a function into a0
abbrev pub result_into : Context → Option Operand → List Instr
result_into c None = []
result_into c (Some o) = into c a0 o

-- ---- calls

-- an argument that is passed on the stack, into its word of the frame, by way of a0 where it stands in no register
abbrev pub stack_argument : Context → (i : ℕ) → Operand → List Instr
stack_argument c i o =
    if nat_lt i most_register_arguments then []
    else operand_code c a0 o ++ pieces.store Sw (operand_register c a0 o) sp (argument_at (stack_arguments i)) ∷ []

-- and one of the first eight, into its register
abbrev pub register_argument : Context → (i : ℕ) → Operand → List Instr
register_argument c i o = if nat_lt i most_register_arguments then into c (a0 + i) o else []

abbrev pub pass_on_stack : Context → (i : ℕ) → List Operand → List Instr
pass_on_stack c i [] = []
pass_on_stack c i (o ∷ operands) = stack_argument c i o ++ pass_on_stack c (i + 1) operands

abbrev pub pass_in_registers : Context → (i : ℕ) → List Operand → List Instr
pass_in_registers c i [] = []
pass_in_registers c i (o ∷ operands) = register_argument c i o ++ pass_in_registers c (i + 1) operands

-- those on the stack first, while a0 holds no argument yet
abbrev pub pass : Context → List Operand → List Instr
pass c operands = pass_on_stack c 0 operands ++ pass_in_registers c 0 operands

abbrev pub take_result : Context → Option ℕ → List Instr
take_result c None = []
take_result c (Some x) = put c a0 x

-- a call of the environment by its number
abbrev pub environment : (number : ℕ) → List Instr
environment number = addi a7 x0 number ∷ instructions.Ecall ∷ []

-- ---- labels

-- the label of each function, and of each instruction of this one
pub record Labels : Type 0 where
  pub function : (f : ℕ) → ℕ
  pub instruction : (k : ℕ) → ℕ

abbrev pub goes_to : Labels → Callee → List Item
goes_to labels (Function f) = items.Jump ra (labels.function f.0) ∷ []
goes_to labels PutChar = plain (environment put_byte_call)
goes_to labels GetChar = plain (environment take_byte_call)

-- ---- branches

abbrev pub less_branch : Signedness → (left right label : ℕ) → Item
less_branch Signed left right label = items.Branch Blt left right label
less_branch Unsigned left right label = items.Branch Bltu left right label

abbrev pub not_less_branch : Signedness → (left right label : ℕ) → Item
not_less_branch Signed left right label = items.Branch Bge left right label
not_less_branch Unsigned left right label = items.Branch Bgeu left right label

abbrev pub compare_branch : Comparison → Signedness → (left right label : ℕ) → Item
compare_branch comparisons.Less s left right label = less_branch s left right label
compare_branch comparisons.LessOrEqual s left right label = not_less_branch s right left label
compare_branch comparisons.Greater s left right label = less_branch s right left label
compare_branch comparisons.GreaterOrEqual s left right label = not_less_branch s left right label
compare_branch comparisons.Equal s left right label = items.Branch Beq left right label
compare_branch comparisons.NotEqual s left right label = items.Branch Bne left right label

abbrev pub compare_items : Context → Comparison → Signedness → (x y : Operand) → (label : ℕ) → List Item
compare_items c op s x y label =
    plain (both c x y) ++ compare_branch op s (operand_register c a0 x) (operand_register c a1 y) label ∷ []

abbrev pub branch_items : Context → Condition → (label : ℕ) → List Item
branch_items c (NotZero o) label = plain (operand_code c a0 o) ++ items.Branch Bne (operand_register c a0 o) x0 label ∷ []
branch_items c (Zero o) label = plain (operand_code c a0 o) ++ items.Branch Beq (operand_register c a0 o) x0 label ∷ []
branch_items c (Compare op s x y) label = compare_items c op s x y label
branch_items c (ComparePointers op x y) label = compare_items c op Unsigned x y label

-- ---- returns

-- the result, or none, that an instruction returns, if it returns
abbrev pub returned : InstructionTree → Option (Option Operand)
returned (move x o) = None
returned (unary op x o) = None
returned (binary op x o p) = None
returned (convert s x o) = None
returned (address_of x p) = None
returned (load s x p) = None
returned (store s p o) = None
returned (copy size alignment p q) = None
returned (fill b p) = None
returned (call x f arguments) = None
returned (jump to) = None
returned (branch condition to) = None
returned (return o) = Some o

-- whether code ends with a return, behind an instruction that is one or not
abbrev pub ends_from : (is_return : Bool) → List InstructionTree → Bool
ends_from is_return [] = is_return
ends_from is_return (i ∷ code) = ends_from (is_some (returned i)) code

-- code that ends with a return has one epilogue, behind it: the other returns go there
abbrev pub has_one_epilogue : TacFunctionTree → Bool
has_one_epilogue f = ends_from false f.code

abbrev pub epilogue : Context → List Instr
epilogue c = if has_one_epilogue c.function then leave c else []

-- to the label at the end
abbrev pub go_out : Context → Labels → List Item
go_out c labels =
    if has_one_epilogue c.function then items.Jump x0 (labels.instruction (length c.function.code)) ∷ [] else plain (leave c)

-- ---- the table

-- code that makes a result in a register, and the result into its place
abbrev pub gives : Context → (x : ℕ) → (ℕ → List Instr) → List Item
gives c x code = plain (code (result_register c x) ++ result_code c x)

abbrev pub instruction_items : Context → Labels → InstructionTree → List Item
instruction_items c labels (move x o) = plain (move_to c o (place_of c.places x))
instruction_items c labels (unary op x o) =
    gives c x (λ rd. operand_code c a0 o ++ unary_instruction op rd (operand_register c a0 o) ∷ [])
instruction_items c labels (binary op x o p) = gives c x (λ rd. operations.binary c op rd o p)
instruction_items c labels (convert s x o) =
    gives c x (λ rd. operand_code c a0 o ++ conversion s rd (operand_register c a0 o) ∷ [])
instruction_items c labels (address_of x p) = gives c x (λ rd. address_into c rd p)
instruction_items c labels (load s x p) =
    let at = anchor_of c p in
    gives c x (λ rd. at.code ++ pieces.load (load_kind s) rd at.register at.immediate ∷ [])
instruction_items c labels (store s p o) =
    let at = anchor_of c p in
    plain (at.code ++ (operand_code c a4 o ++ pieces.store (store_kind s) (operand_register c a4 o) at.register at.immediate ∷ []))
instruction_items c labels (copy size alignment p q) =
    plain (address_into c a5 p ++ (address_into c a6 q ++ copy_code size alignment))
instruction_items c labels (fill blank p) = plain (address_into c a5 p ++ fill_code (is_word_address p) (blank_size blank))
instruction_items c labels (call x f arguments) =
    plain (pass c arguments) ++ (goes_to labels f ++ plain (take_result c x))
instruction_items c labels (jump to) = items.Jump x0 (labels.instruction to) ∷ []
instruction_items c labels (branch condition to) = branch_items c condition (labels.instruction to)
instruction_items c labels (return o) = plain (result_into c o) ++ go_out c labels

-- ---- functions

-- a return at the end needs no jump
abbrev pub last_items : Context → Labels → InstructionTree → Option (Option Operand) → List Item
last_items c labels i None = instruction_items c labels i
last_items c labels i (Some o) = plain (result_into c o)

-- nothing comes behind
abbrev pub is_end : List InstructionTree → Bool
is_end [] = true
is_end (i ∷ code) = false

abbrev pub items_at : Context → Labels → (is_last : Bool) → InstructionTree → List Item
items_at c labels is_last i = if is_last then last_items c labels i (returned i) else instruction_items c labels i

-- each instruction behind its label, and the epilogue behind the label at the end
abbrev pub body_items : Context → Labels → (k : ℕ) → List InstructionTree → List Item
body_items c labels k [] = items.Label (labels.instruction k) ∷ plain (epilogue c)
body_items c labels k (i ∷ code) =
    items.Label (labels.instruction k) ∷ (items_at c labels (is_end code) i ++ body_items c labels (k + 1) code)

abbrev pub function_items : Context → Labels → (f : ℕ) → List Item
function_items c labels f =
    items.Label (labels.function f) ∷ (plain (enter c) ++ body_items c labels 0 c.function.code)

-- ---- units

-- a function has a label for its entry, one for each instruction, and one for its end
abbrev pub first_label : List TacFunctionTree → (f : ℕ) → ℕ
first_label [] f = 0
first_label (g ∷ functions) zero = 0
first_label (g ∷ functions) (suc f) = length g.code + 2 + first_label functions f

abbrev pub labels_of : TacUnitTree → (f : ℕ) → Labels
labels_of u f = record {
  function = first_label u.functions;
  instruction = λ k. first_label u.functions f + 1 + k;
}

abbrev pub functions_items :
    TacUnitTree → List PlacesTree → (data_at : ℕ → ℕ) → (f : ℕ) → List TacFunctionTree → List Item
functions_items u ps data_at f [] = []
functions_items u ps data_at f (g ∷ functions) =
    function_items (record { function = g; places = slice_index_or ps f no_places; data_at = data_at }) (labels_of u f) f
    ++ functions_items u ps data_at (f + 1) functions

-- main is called from where the machine starts, and its result is the status
abbrev pub start_items : TacUnitTree → List Item
start_items u = items.Jump ra (first_label u.functions u.main) ∷ plain (environment exit_call)

-- the blocks of the unit's data lie at these addresses
abbrev pub unit_items : TacUnitTree → List PlacesTree → (data_at : ℕ → ℕ) → List Item
unit_items u ps data_at = start_items u ++ functions_items u ps data_at 0 u.functions
