-- What some instructions become, what a small unit does, and where machine code is refused.
use Rattle.std.proofs.Common.{◌≡◌, ℕ, ◌+◌, List, [], ◌∷◌, ◌++◌, true, Some, None, refl}
use Rattle.qs_memory.specs.Memory.{zeros}
use Rattle.qs_memory.specs.declared.scalar.Scalar.TheVariants as scalars
use Rattle.qs_memory.specs.declared.operation.Signedness.TheVariants.{Signed, Unsigned}
use Rattle.qs_memory.specs.declared.operation.Direction.TheVariants.{Down}
use Rattle.qs_memory.specs.declared.operation.Arithmetic.TheVariants as arithmetics
use Rattle.qs_memory.specs.declared.operation.Comparison.TheVariants as comparisons
use Rattle.qs_memory.specs.declared.operation.BinaryOperation.TheVariants as binaries
use Rattle.qs_calls.specs.declared.callee.Callee.TheVariants.{Function, PutChar}
use Rattle.qs_calls.specs.declared.parameter.Parameter.{Parameter}
use Rattle.qs_calls.specs.declared.parameter.Parameter.TheVariants as parameters
use Rattle.qs_isa.specs.declared.instruction.Instr.TheVariants.{Lui, Jalr, Load, Store, OpImm, ShiftImm, Op, Ecall}
use Rattle.qs_isa.specs.declared.instruction.Instr.TheVariants as instructions
use Rattle.qs_isa.specs.declared.instruction.LoadKind.TheVariants.{Lw}
use Rattle.qs_isa.specs.declared.instruction.StoreKind.TheVariants.{Sw, Sb}
use Rattle.qs_isa.specs.declared.instruction.BranchKind.TheVariants.{Bne, Blt}
use Rattle.qs_isa.specs.declared.instruction.OpImmKind.TheVariants.{Addi, Xori}
use Rattle.qs_isa.specs.declared.instruction.ShiftImmKind.TheVariants.{Slli}
use Rattle.qs_isa.specs.declared.instruction.OpKind.TheVariants.{Add, Slt}
use Rattle.qs_asm.specs.declared.item.Item.{Item}
use Rattle.qs_asm.specs.declared.item.Item.TheVariants.{Label, Jump, Branch}
use Rattle.qs_asm.specs.Items.{plain}
use Rattle.qs_tac.specs.Trees.{InstructionTree, move, binary, load, store, fill, call, jump, branch, return, TacFunctionTree, TacUnitTree}
use Rattle.qs_tac.specs.Places.{PlacesTree, all_slots}
use Rattle.qs_tac.specs.declared.places.Place.TheVariants as places
use Rattle.qs_tac.specs.declared.operands.Operand.{Operand}
use Rattle.qs_tac.specs.declared.operands.Operand.TheVariants.{Temporary, Integer, Constant, Local, Data}
use Rattle.qs_tac.specs.declared.operands.Condition.TheVariants.{Compare}
use Rattle.qs_frames.specs.Layout.{rounded, keeps_return_address, frame_cost}
use Rattle.qs_emit_selection.specs.Pieces.{is_small, low_part, high_part, is_near, shift_of}
use Rattle.qs_emit_selection.specs.Operands.{Context}
use Rattle.qs_emit_selection.specs.Emission.{take_parameter, enter, leave, stack_argument, Labels, instruction_items, body_items}
use Rattle.qs_emit_selection.specs.Data.{data_address}
use Rattle.qs_emit_selection.specs.Limits.{first_fault}
use Rattle.qs_emit_selection.specs.Units.{selected}
use Rattle.qs_emit_selection.specs.declared.fault.SelectionFault.TheVariants as faults

-- ---- instructions of a function with so many temporaries and a block of 8 bytes, all of them in slots

abbrev function_of : (temporaries : ℕ) → TacFunctionTree
function_of temporaries = record { parameters = []; temporaries = temporaries; blocks = 8 ∷ []; code = [] }

abbrev context_of : (temporaries : ℕ) → Context
context_of temporaries = record {
  function = function_of temporaries;
  places = all_slots (function_of temporaries);
  data_at = data_address (record { size = 5; is_writable = true } ∷ record { size = 1; is_writable = true } ∷ []);
}

abbrev some_labels : Labels
some_labels = record { function = λ f. 100 + f; instruction = λ k. 200 + k }

abbrev become : InstructionTree → List Item
become i = instruction_items (context_of 3) some_labels i

-- no function is called, so the slots of three temporaries are at 8, 4 and 0 behind x2
a_small_sum :
    become (binary (binaries.Arithmetic arithmetics.Add Signed) 0 (Integer 1) (Constant 5))
    ≡ plain (Load Lw 10 2 4 ∷ OpImm Addi 10 10 5 ∷ Store Sw 2 10 8 ∷ [])
unfolding is_small is_near frame_cost rounded keeps_return_address
a_small_sum = refl

-- 0x12fff is 0x13000 and -1
a_wide_sum :
    become (binary (binaries.Arithmetic arithmetics.Add Signed) 0 (Integer 1) (Constant 0x12fff))
    ≡ plain (Load Lw 10 2 4 ∷ Lui 11 0x13000 ∷ OpImm Addi 11 11 0xffffffff ∷ Op Add 10 10 11 ∷ Store Sw 2 10 8 ∷ [])
unfolding is_small low_part high_part is_near frame_cost rounded keeps_return_address
a_wide_sum = refl

-- 7 is taken away by adding -7
a_difference :
    become (binary (binaries.Arithmetic arithmetics.Subtract Unsigned) 2 (Integer 2) (Constant 7))
    ≡ plain (Load Lw 10 2 0 ∷ OpImm Addi 10 10 0xfffffff9 ∷ Store Sw 2 10 0 ∷ [])
unfolding is_small is_near frame_cost rounded keeps_return_address
a_difference = refl

-- x <= y is not y < x
a_comparison :
    become (binary (binaries.Compare comparisons.LessOrEqual Signed) 0 (Integer 1) (Integer 2))
    ≡ plain (Load Lw 10 2 0 ∷ Load Lw 11 2 4 ∷ Op Slt 10 10 11 ∷ OpImm Xori 10 10 1 ∷ Store Sw 2 10 8 ∷ [])
unfolding is_near frame_cost rounded keeps_return_address
a_comparison = refl

-- the third element down, of 12 bytes each
a_constant_step :
    become (binary (binaries.Move Down Signed 12) 0 (Temporary 1) (Constant 3))
    ≡ plain (Load Lw 10 2 4 ∷ OpImm Addi 10 10 0xffffffdc ∷ Store Sw 2 10 8 ∷ [])
unfolding is_small is_near frame_cost rounded keeps_return_address
a_constant_step = refl

-- p->b[i].c where b is 4 bytes and c is 8 bytes behind the start
a_load_behind_an_index :
    become (load scalars.Int 0 (record {
      base = Temporary 1;
      offset = Some 4;
      index = Some (record { count = Integer 2; signedness = Signed; element = 4; offset = Some 8 });
    }))
    ≡ plain (Load Lw 10 2 4 ∷ Load Lw 11 2 0 ∷ ShiftImm Slli 13 11 2 ∷ Op Add 13 13 10 ∷ Load Lw 10 13 12 ∷ Store Sw 2 10 8 ∷ [])
unfolding is_small is_near shift_of frame_cost rounded keeps_return_address
a_load_behind_an_index = refl

-- the second block of data lies 8 bytes behind the first; a constant index is a part of the displacement
a_store_of_a_byte :
    become (store scalars.Char (record {
      base = Data 1;
      offset = None;
      index = Some (record { count = Constant 3; signedness = Signed; element = 1; offset = None });
    }) (Integer 0))
    ≡ plain (Lui 10 0x10000000 ∷ Load Lw 14 2 8 ∷ Store Sb 10 14 11 ∷ [])
unfolding low_part high_part is_near frame_cost rounded keeps_return_address
a_store_of_a_byte = refl

-- the block lies behind the three slots
a_fill :
    become (fill (zeros 6) (record { base = Local 0; offset = None; index = None }))
    ≡ plain (OpImm Addi 15 2 12 ∷ OpImm Addi 17 0 4 ∷ Op Add 17 17 15 ∷ Store Sw 15 0 0 ∷ OpImm Addi 15 15 4
    ∷ instructions.Branch Bne 15 17 0xfffffff8 ∷ Store Sb 15 0 0 ∷ Store Sb 15 0 1 ∷ [])
unfolding is_small is_near frame_cost rounded keeps_return_address
a_fill = refl

-- the first of 600 slots lies 2400 bytes behind x2
a_far_slot :
    instruction_items (context_of 600) some_labels (move 0 (Constant 7))
    ≡ plain (OpImm Addi 10 0 7 ∷ Lui 1 4096 ∷ Op Add 1 1 2 ∷ Store Sw 1 10 0xfffff960 ∷ [])
unfolding is_small low_part high_part is_near frame_cost rounded keeps_return_address
a_far_slot = refl

a_call :
    become (call (Some 0) (Function (record { 0 = 3 })) (Integer 1 ∷ Constant 2 ∷ []))
    ≡ plain (Load Lw 10 2 4 ∷ OpImm Addi 11 0 2 ∷ []) ++ (Jump 1 103 ∷ plain (Store Sw 2 10 8 ∷ []))
unfolding is_small is_near frame_cost rounded keeps_return_address
a_call = refl

a_character :
    become (call None PutChar (Constant 65 ∷ []))
    ≡ plain (OpImm Addi 10 0 65 ∷ OpImm Addi 17 0 1 ∷ Ecall ∷ [])
unfolding is_small
a_character = refl

a_branch :
    become (branch (Compare comparisons.Less Signed (Integer 0) (Constant 10)) 5)
    ≡ plain (Load Lw 10 2 8 ∷ OpImm Addi 11 0 10 ∷ []) ++ (Branch Blt 10 11 205 ∷ [])
unfolding is_small is_near frame_cost rounded keeps_return_address
a_branch = refl

-- ---- a unit: int f(int x) { return x + 1; } int main(void) { return f(4); }

abbrev successor : TacFunctionTree
successor = record {
  parameters = parameters.Plain 0 ∷ [];
  temporaries = 2;
  blocks = [];
  code = binary (binaries.Arithmetic arithmetics.Add Signed) 1 (Integer 0) (Constant 1) ∷ return (Some (Integer 1)) ∷ [];
}

-- a temporary in x9
abbrev caller : TacFunctionTree
caller = record {
  parameters = [];
  temporaries = 1;
  blocks = [];
  code = call (Some 0) (Function (record { 0 = 0 })) (Constant 4 ∷ []) ∷ return (Some (Integer 0)) ∷ [];
}

abbrev two_functions : TacUnitTree
two_functions = record { functions = successor ∷ caller ∷ []; main = 1; data_blocks = [] }

abbrev their_places : List PlacesTree
their_places = all_slots successor ∷ record { at = places.Register 9 ∷ []; needed = [] } ∷ []

their_items :
    selected two_functions their_places
    ≡ Jump 1 4 ∷ plain (OpImm Addi 17 0 0 ∷ Ecall ∷ [])
    ++ (Label 0 ∷ plain (OpImm Addi 2 2 0xfffffff0 ∷ Store Sw 2 10 4 ∷ []))
    ++ (Label 1 ∷ plain (Load Lw 10 2 4 ∷ OpImm Addi 10 10 1 ∷ Store Sw 2 10 0 ∷ []))
    ++ (Label 2 ∷ plain (Load Lw 10 2 0 ∷ []))
    ++ (Label 3 ∷ plain (OpImm Addi 2 2 16 ∷ Jalr 0 1 0 ∷ []))
    ++ (Label 4 ∷ plain (OpImm Addi 2 2 0xfffffff0 ∷ Store Sw 2 1 0 ∷ Store Sw 2 9 4 ∷ []))
    ++ (Label 5 ∷ plain (OpImm Addi 10 0 4 ∷ []) ++ (Jump 1 0 ∷ plain (OpImm Addi 9 10 0 ∷ [])))
    ++ (Label 6 ∷ plain (OpImm Addi 10 9 0 ∷ []))
    ++ (Label 7 ∷ plain (Load Lw 9 2 4 ∷ Load Lw 1 2 0 ∷ OpImm Addi 2 2 16 ∷ Jalr 0 1 0 ∷ []))
unfolding is_small is_near frame_cost keeps_return_address
their_items = refl

they_have_no_fault : first_fault two_functions their_places ≡ None
unfolding frame_cost keeps_return_address
they_have_no_fault = refl

-- ---- returns

abbrev code_of : List InstructionTree → TacFunctionTree
code_of code = record { parameters = []; temporaries = 0; blocks = []; code = code }

abbrev body_of : List InstructionTree → List Item
body_of code = body_items (record { function = code_of code; places = all_slots (code_of code); data_at = λ block. 0 }) some_labels 0 code

-- the first return goes to the epilogue, and the last one falls into it
one_epilogue :
    body_of (return (Some (Constant 1)) ∷ return (Some (Constant 2)) ∷ [])
    ≡ Label 200 ∷ plain (OpImm Addi 10 0 1 ∷ [])
    ++ (Jump 0 202 ∷ Label 201 ∷ plain (OpImm Addi 10 0 2 ∷ []))
    ++ (Label 202 ∷ plain (OpImm Addi 2 2 16 ∷ Jalr 0 1 0 ∷ []))
unfolding is_small frame_cost keeps_return_address
one_epilogue = refl

-- code that ends with another instruction has none at its end
an_epilogue_of_its_own :
    body_of (return None ∷ jump 0 ∷ [])
    ≡ Label 200 ∷ plain (OpImm Addi 2 2 16 ∷ Jalr 0 1 0 ∷ []) ++ (Label 201 ∷ Jump 0 200 ∷ Label 202 ∷ [])
unfolding is_small frame_cost keeps_return_address
an_epilogue_of_its_own = refl

-- ---- values in registers: x5, which calls change, and x9, which is saved; the slot of the last temporary lies first

abbrev mixed_places : PlacesTree
mixed_places = record { at = places.Slot 1 ∷ places.Register 5 ∷ places.Slot 0 ∷ places.Register 9 ∷ []; needed = [] }

abbrev mixed : Context
mixed = record { function = function_of 4; places = mixed_places; data_at = λ block. 0 }

-- slot 1 holds temporary 0 and lies behind slot 0, which holds temporary 2
a_sum_in_a_register :
    instruction_items mixed some_labels (binary (binaries.Arithmetic arithmetics.Add Signed) 1 (Integer 0) (Integer 3))
    ≡ plain (Load Lw 10 2 8 ∷ Op Add 5 10 9 ∷ [])
unfolding is_near rounded keeps_return_address
a_sum_in_a_register = refl

a_move_to_a_slot : instruction_items mixed some_labels (move 2 (Temporary 1)) ≡ plain (Store Sw 2 5 4 ∷ [])
unfolding is_near rounded keeps_return_address
a_move_to_a_slot = refl

a_move_to_a_register : instruction_items mixed some_labels (move 1 (Temporary 3)) ≡ plain (OpImm Addi 5 9 0 ∷ [])
a_move_to_a_register = refl

-- ---- nine arguments, and nine parameters

abbrev eight : List Operand
eight = Constant 1 ∷ Constant 2 ∷ Constant 3 ∷ Constant 4 ∷ Constant 5 ∷ Constant 6 ∷ Constant 7 ∷ Constant 8 ∷ []

abbrev passes_nine : TacFunctionTree
passes_nine = record {
  parameters = [];
  temporaries = 1;
  blocks = [];
  code = call None (Function (record { 0 = 3 })) (eight ++ Integer 0 ∷ []) ∷ [];
}

abbrev passing : Context
passing = record { function = passes_nine; places = all_slots passes_nine; data_at = λ block. 0 }

-- the ninth argument is passed in the first word of the frame; behind it lie the return address and the slot
a_ninth_argument :
    instruction_items passing some_labels (call None (Function (record { 0 = 3 })) (eight ++ Integer 0 ∷ []))
    ≡ plain (Load Lw 10 2 8 ∷ Store Sw 2 10 0 ∷ OpImm Addi 10 0 1 ∷ OpImm Addi 11 0 2 ∷ OpImm Addi 12 0 3 ∷ OpImm Addi 13 0 4
    ∷ OpImm Addi 14 0 5 ∷ OpImm Addi 15 0 6 ∷ OpImm Addi 16 0 7 ∷ OpImm Addi 17 0 8 ∷ []) ++ (Jump 1 103 ∷ [])
unfolding is_small is_near keeps_return_address
a_ninth_argument = refl

-- the sixteenth is passed seven words further on, from the register in which it stands, if it stands in one
abbrev passes_sixteen : TacFunctionTree
passes_sixteen = record passes_nine { code = call None (Function (record { 0 = 3 })) (eight ++ eight) ∷ [] }

abbrev stacked : Context
stacked = record { function = passes_sixteen; places = all_slots passes_sixteen; data_at = λ block. 0 }

a_sixteenth_argument : stack_argument stacked 15 (Integer 0) ≡ Load Lw 10 2 36 ∷ Store Sw 2 10 28 ∷ []
unfolding is_near keeps_return_address
a_sixteenth_argument = refl

an_argument_in_a_register :
    stack_argument (record { function = passes_sixteen; places = record { at = places.Register 9 ∷ []; needed = [] }; data_at = λ block. 0 }) 15 (Integer 0)
    ≡ Store Sw 2 9 28 ∷ []
an_argument_in_a_register = refl

its_entry : enter passing ≡ OpImm Addi 2 2 0xfffffff0 ∷ Store Sw 2 1 4 ∷ []
unfolding is_small frame_cost keeps_return_address
its_entry = refl

its_return : leave passing ≡ Load Lw 1 2 4 ∷ OpImm Addi 2 2 16 ∷ Jalr 0 1 0 ∷ []
unfolding is_small frame_cost keeps_return_address
its_return = refl

abbrev eight_parameters : List Parameter
eight_parameters =
    parameters.Plain 0 ∷ parameters.Plain 1 ∷ parameters.Plain 2 ∷ parameters.Plain 3 ∷ parameters.Plain 4 ∷ parameters.Plain 5
    ∷ parameters.Plain 6 ∷ parameters.Plain 7 ∷ []

abbrev takes_nine : TacFunctionTree
takes_nine = record { parameters = eight_parameters ++ parameters.Plain 8 ∷ []; temporaries = 9; blocks = []; code = [] }

abbrev taking : Context
taking = record { function = takes_nine; places = all_slots takes_nine; data_at = λ block. 0 }

-- nine slots are a frame of 48 bytes, behind which lies the caller's
an_eighth_parameter : take_parameter taking 7 (parameters.Plain 7) ≡ Store Sw 2 17 4 ∷ []
unfolding is_near frame_cost keeps_return_address
an_eighth_parameter = refl

a_ninth_parameter : take_parameter taking 8 (parameters.Plain 8) ≡ Load Lw 10 2 48 ∷ Store Sw 2 10 0 ∷ []
unfolding is_near frame_cost keeps_return_address
a_ninth_parameter = refl

a_sixteenth_parameter : take_parameter taking 15 (parameters.Plain 8) ≡ Load Lw 10 2 76 ∷ Store Sw 2 10 0 ∷ []
unfolding is_near frame_cost keeps_return_address
a_sixteenth_parameter = refl

-- eight slots and the word of x9
abbrev in_registers : PlacesTree
in_registers = record {
  at =
      places.Slot 0 ∷ places.Slot 1 ∷ places.Slot 2 ∷ places.Slot 3 ∷ places.Slot 4 ∷ places.Slot 5 ∷ places.Slot 6
      ∷ places.Slot 7 ∷ places.Register 9 ∷ [];
  needed = [];
}

a_ninth_parameter_in_a_register :
    take_parameter (record { function = takes_nine; places = in_registers; data_at = λ block. 0 }) 8 (parameters.Plain 8)
    ≡ Load Lw 9 2 48 ∷ []
unfolding is_near frame_cost keeps_return_address
a_ninth_parameter_in_a_register = refl

-- a parameter whose address is taken, in a frame of 4048 bytes
abbrev places_nine : TacFunctionTree
places_nine = record {
  parameters = eight_parameters ++ parameters.Placed 0 scalars.Int ∷ [];
  temporaries = 8;
  blocks = 4000 ∷ [];
  code = [];
}

a_ninth_parameter_far_away :
    take_parameter (record { function = places_nine; places = all_slots places_nine; data_at = λ block. 0 }) 8 (parameters.Placed 0 scalars.Int)
    ≡ Lui 10 4096 ∷ Op Add 10 10 2 ∷ Load Lw 10 10 0xffffffd0 ∷ Store Sw 2 10 36 ∷ []
unfolding is_near low_part high_part rounded frame_cost keeps_return_address
a_ninth_parameter_far_away = refl

-- ---- faults

abbrev unit_of : TacFunctionTree → TacUnitTree
unit_of f = record { functions = f ∷ []; main = 0; data_blocks = [] }

abbrev calls_with : List Operand → TacFunctionTree
calls_with arguments =
    record { parameters = []; temporaries = 0; blocks = []; code = call None (Function (record { 0 = 0 })) arguments ∷ [] }

sixteen_arguments : first_fault (unit_of (calls_with (eight ++ eight))) [] ≡ None
unfolding frame_cost keeps_return_address
sixteen_arguments = refl

seventeen_arguments : first_fault (unit_of (calls_with (Constant 0 ∷ eight ++ eight))) [] ≡ Some faults.TooManyArguments
seventeen_arguments = refl

-- of main, and of another function
main_with_nine_parameters : first_fault (record { functions = takes_nine ∷ caller ∷ []; main = 0; data_blocks = [] }) [] ≡ Some faults.TooManyArguments
main_with_nine_parameters = refl

nine_parameters : first_fault (record { functions = takes_nine ∷ caller ∷ []; main = 1; data_blocks = [] }) [] ≡ None
unfolding frame_cost keeps_return_address
nine_parameters = refl

no_register : first_fault (unit_of (calls_with [])) (record { at = places.Register 32 ∷ []; needed = [] } ∷ []) ≡ Some faults.NoRegister
no_register = refl

abbrev with_block : (size : ℕ) → TacFunctionTree
with_block size = record { parameters = []; temporaries = 0; blocks = size ∷ []; code = [] }

the_largest_frame : first_fault (unit_of (with_block 0x0ffffffc)) [] ≡ None
unfolding frame_cost rounded keeps_return_address
the_largest_frame = refl

too_large_a_frame : first_fault (unit_of (with_block 0x0ffffffd)) [] ≡ Some faults.FrameTooLarge
unfolding frame_cost rounded keeps_return_address
too_large_a_frame = refl

abbrev with_data : (size : ℕ) → TacUnitTree
with_data size = record { functions = []; main = 0; data_blocks = record { size = size; is_writable = true } ∷ [] }

the_largest_data : first_fault (with_data 16777216) [] ≡ None
unfolding rounded
the_largest_data = refl

too_large_data : first_fault (with_data 16777217) [] ≡ Some faults.DataTooLarge
unfolding rounded
too_large_data = refl
