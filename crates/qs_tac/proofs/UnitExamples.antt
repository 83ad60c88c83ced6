-- Which units fit, what their instructions read and write, and how many values and words functions have.
use Rattle.std.proofs.Common.{◌≡◌, ℕ, Bool, true, false, List, [], ◌∷◌, map, Some, None, refl}
use Rattle.std.specs.Prelude.{◌+◌, replicate}
use Rattle.qs_memory.specs.Memory.{zeros, repeated}
use Rattle.qs_memory.specs.declared.scalar.Scalar.TheVariants as scalars
use Rattle.qs_memory.specs.declared.operation.Signedness.TheVariants.{Signed}
use Rattle.qs_memory.specs.declared.operation.Direction.TheVariants.{Down}
use Rattle.qs_memory.specs.declared.operation.Arithmetic.TheVariants as arithmetics
use Rattle.qs_memory.specs.declared.operation.Comparison.TheVariants as comparisons
use Rattle.qs_memory.specs.declared.operation.UnaryOperation.TheVariants as unaries
use Rattle.qs_memory.specs.declared.operation.BinaryOperation.TheVariants as binaries
use Rattle.qs_events.specs.Runs.{has_ended, is_undefined}
use Rattle.qs_calls.specs.declared.callee.Callee.TheVariants.{Function, PutChar, GetChar}
use Rattle.qs_calls.specs.declared.parameter.Parameter.TheVariants.{Plain, Placed}
use Rattle.qs_tac.specs.Trees.{InstructionTree, move, unary, binary, convert, address_of, load, store, copy, fill, call, jump, branch, return}
use Rattle.qs_tac.specs.Trees.{TacFunctionTree}
use Rattle.qs_tac.specs.declared.operands.Operand.{Operand}
use Rattle.qs_tac.specs.declared.operands.Operand.TheVariants.{Temporary, Integer, Byte, Constant, Null, Local, Data}
use Rattle.qs_tac.specs.declared.operands.Address.{Address}
use Rattle.qs_tac.specs.declared.operands.Condition.TheVariants.{Zero, Compare}
use Rattle.qs_tac.specs.declared.places.Place.{Place}
use Rattle.qs_tac.specs.declared.places.Place.TheVariants.{Slot, Register}
use Rattle.qs_tac.specs.Holders.{is_saved_register}
use Rattle.qs_tac.specs.Places.{slots_from, all_slots, Accepted, own_slots, is_for_steps, is_for_values, slots_among, slot_rank}
use Rattle.qs_tac.specs.Liveness.{nexts}
use Rattle.qs_tac.specs.Fits.{unit_fits}
use Rattle.qs_tac.specs.Uses.{reads, writes}
use Rattle.qs_tac.specs.Sizes.{values, most_passed, is_near, words, instruction_words}
use Rattle.qs_tac.proofs.StepExamples.{function_of, unit_of, result_of, at_local, behind, returns}

-- an element of what begins at the base, and there the byte at the offset
abbrev element : (base count : Operand) → (size offset : ℕ) → Address
element base count size offset = record {
  base = base;
  offset = None;
  index = Some (record { count = count; signedness = Signed; element = size; offset = Some offset });
}

-- ---- operands and addresses

-- 263 as a `char` is 7
a_byte : result_of (move 1 (Constant 263) ∷ returns (Byte 1) ∷ []) ≡ has_ended (Some 7)
a_byte = refl

a_byte_of_a_pointer : result_of (move 1 (Local 0) ∷ returns (Byte 1) ∷ []) ≡ is_undefined
a_byte_of_a_pointer = refl

a_byte_without_a_value : result_of (returns (Byte 1) ∷ []) ≡ is_undefined
a_byte_without_a_value = refl

-- the block has 8 bytes, and the parameter is 7
an_element :
    result_of (store scalars.Char (element (Local 0) (Temporary 0) 1 0) (Constant 5) ∷ load scalars.Char 1 (at_local 7) ∷ returns (Temporary 1) ∷ [])
    ≡ has_ended (Some 5)
an_element = refl

a_member_of_an_element :
    result_of (store scalars.Char (element (Local 0) (Constant 1) 4 3) (Constant 5) ∷ load scalars.Char 1 (at_local 7) ∷ returns (Temporary 1) ∷ [])
    ≡ has_ended (Some 5)
a_member_of_an_element = refl

-- a count of -1 behind the member at the end
abbrev before_the_end : Address
before_the_end = record {
  base = Local 0;
  offset = Some 8;
  index = Some (record { count = Constant 4294967295; signedness = Signed; element = 4; offset = None });
}

an_element_before :
    result_of (store scalars.Int before_the_end (Constant 5) ∷ load scalars.Int 2 (at_local 4) ∷ returns (Temporary 2) ∷ [])
    ≡ has_ended (Some 5)
an_element_before = refl

an_element_past_the_end : result_of (load scalars.Char 1 (element (Local 0) (Constant 9) 1 0) ∷ returns (Constant 0) ∷ []) ≡ is_undefined
an_element_past_the_end = refl

-- a pointer alone isn't into an object
the_address_of_null : result_of (address_of 1 (record { base = Null; offset = None; index = None }) ∷ branch (Zero (Temporary 1)) 2 ∷ returns (Constant 3) ∷ []) ≡ has_ended (Some 3)
the_address_of_null = refl

an_element_of_null : result_of (load scalars.Char 1 (element Null (Constant 1) 1 0) ∷ returns (Constant 0) ∷ []) ≡ is_undefined
an_element_of_null = refl

an_element_without_a_count : result_of (address_of 1 (element (Local 0) (Temporary 2) 1 0) ∷ returns (Constant 0) ∷ []) ≡ is_undefined
an_element_without_a_count = refl

-- ---- which units fit

abbrev is_unit : List InstructionTree → Bool
is_unit code = unit_fits (unit_of code)

it_fits : is_unit (move 3 (Byte 3) ∷ load scalars.Int 0 (element (Local 0) (Integer 3) 16777216 4294967295) ∷ jump 2 ∷ []) ≡ true
it_fits = refl

a_target_past_the_end : is_unit (jump 1 ∷ []) ≡ false
a_target_past_the_end = refl

a_branch_past_the_end : is_unit (branch (Zero Null) 1 ∷ []) ≡ false
a_branch_past_the_end = refl

a_temporary_that_is_not_there : is_unit (move 4 (Constant 0) ∷ []) ≡ false
a_temporary_that_is_not_there = refl

a_byte_that_is_not_there : is_unit (returns (Byte 4) ∷ []) ≡ false
a_byte_that_is_not_there = refl

a_block_that_is_not_there : is_unit (returns (Local 1) ∷ []) ≡ false
a_block_that_is_not_there = refl

data_that_are_not_there : is_unit (returns (Data 1) ∷ []) ≡ false
data_that_are_not_there = refl

a_constant_out_of_range : is_unit (returns (Constant 4294967296) ∷ []) ≡ false
a_constant_out_of_range = refl

an_offset_out_of_range : is_unit (address_of 0 (at_local 4294967296) ∷ []) ≡ false
an_offset_out_of_range = refl

an_element_of_no_bytes : is_unit (address_of 0 (element (Local 0) (Constant 0) 0 0) ∷ []) ≡ false
an_element_of_no_bytes = refl

a_move_among_elements_of_no_bytes : is_unit (binary (binaries.Move Down Signed 0) 0 (Local 0) (Constant 0) ∷ []) ≡ false
a_move_among_elements_of_no_bytes = refl

a_count_that_is_not_there : is_unit (address_of 0 (element (Local 0) (Temporary 4) 1 0) ∷ []) ≡ false
a_count_that_is_not_there = refl

an_argument_too_many : is_unit (call None (Function (record { 0 = 0 })) (Constant 0 ∷ Constant 0 ∷ []) ∷ []) ≡ false
an_argument_too_many = refl

a_copy_without_alignment : is_unit (copy 4 0 (at_local 0) (at_local 4) ∷ []) ≡ false
a_copy_without_alignment = refl

a_fill_that_is_too_large : is_unit (fill (repeated 65536 (zeros 65536)) (at_local 0) ∷ []) ≡ false
a_fill_that_is_too_large = refl

-- ---- what is read and written

reads_of_an_access : reads (store scalars.Int (element (Temporary 1) (Integer 2) 4 0) (Byte 3)) ≡ 1 ∷ 2 ∷ 3 ∷ []
reads_of_an_access = refl

reads_of_a_copy : reads (copy 4 4 (element (Temporary 1) (Constant 2) 4 0) (element (Local 0) (Temporary 3) 4 0)) ≡ 1 ∷ 3 ∷ []
reads_of_a_copy = refl

reads_of_a_call : reads (call (Some 0) PutChar (Temporary 2 ∷ [])) ≡ 2 ∷ []
reads_of_a_call = refl

reads_of_a_condition : reads (branch (Compare comparisons.Less Signed (Temporary 2) (Temporary 2)) 0) ≡ 2 ∷ 2 ∷ []
reads_of_a_condition = refl

writes_of_instructions :
    map writes (call (Some 2) GetChar [] ∷ call None GetChar [] ∷ store scalars.Int (at_local 0) (Temporary 1) ∷ load scalars.Int 3 (at_local 0) ∷ [])
    ≡ Some 2 ∷ None ∷ None ∷ Some 3 ∷ []
writes_of_instructions = refl

-- ---- sizes

its_values : values (function_of []) ≡ 4
its_values = refl

-- a call with so many arguments
abbrev calling : (count : ℕ) → InstructionTree
calling count = call None (Function (record { 0 = 0 })) (replicate count (Constant 0))

-- eight go in registers, and the others on the stack
passed_on_the_stack : map (λ i. most_passed (i ∷ [])) (calling 8 ∷ calling 9 ∷ calling 16 ∷ jump 0 ∷ []) ≡ 0 ∷ 1 ∷ 8 ∷ 0 ∷ []
passed_on_the_stack = refl

the_most_of_calls : most_passed (calling 2 ∷ calling 11 ∷ jump 0 ∷ calling 9 ∷ []) ≡ 3
the_most_of_calls = refl

-- a store for each that goes on the stack
words_of_arguments : map (instruction_words (function_of [])) (calling 8 ∷ calling 9 ∷ calling 16 ∷ []) ≡ 9 ∷ 11 ∷ 25 ∷ []
words_of_arguments = refl

words_of_instructions :
    map (instruction_words (function_of [])) (
    move 0 (Constant 1)
    ∷ unary (unaries.Minus Signed) 0 (Byte 1)
    ∷ binary (binaries.Arithmetic arithmetics.Add Signed) 0 (Temporary 1) (Temporary 2)
    ∷ binary (binaries.Compare comparisons.Less Signed) 0 (Temporary 1) Null
    ∷ binary (binaries.Difference 4) 0 (Temporary 1) (Local 0)
    ∷ convert scalars.Char 0 (Data 0)
    ∷ address_of 0 (at_local 4096)
    ∷ load scalars.Int 0 (record { base = Data 0; offset = Some 4096; index = None })
    ∷ load scalars.Int 0 (element (Temporary 1) (Temporary 2) 4 2047)
    ∷ load scalars.Int 0 (behind 1 2048)
    ∷ store scalars.Char (behind 1 0) (Byte 2)
    ∷ copy 8 4 (at_local 0) (behind 1 0)
    ∷ fill (zeros 8) (at_local 0)
    ∷ call (Some 0) (Function (record { 0 = 0 })) (Temporary 1 ∷ Constant 2 ∷ [])
    ∷ call None PutChar (Temporary 1 ∷ [])
    ∷ jump 0
    ∷ branch (Zero (Temporary 1)) 0
    ∷ branch (Compare comparisons.Less Signed (Temporary 1) (Constant 2)) 0
    ∷ return None
    ∷ return (Some (Temporary 1))
    ∷ [])
    ≡ 2 ∷ 3 ∷ 4 ∷ 5 ∷ 9 ∷ 4 ∷ 4 ∷ 3 ∷ 8 ∷ 5 ∷ 3 ∷ 13 ∷ 9 ∷ 4 ∷ 3 ∷ 1 ∷ 3 ∷ 4 ∷ 17 ∷ 18 ∷ []
words_of_instructions = refl

-- 16 to begin, 1 for the parameter, 17 to end
its_words : words (function_of (return None ∷ [])) ≡ 34
its_words = refl

-- 3 more for the ninth parameter, which is in the frame of the caller
words_of_nine_parameters : words (record (function_of []) { parameters = replicate 9 (Plain 0) }) ≡ 16 + 9 + 3
words_of_nine_parameters = refl

-- of 500 temporaries the first nine are out of reach
abbrev large : TacFunctionTree
large = record { parameters = Plain 0 ∷ Placed 0 scalars.Int ∷ []; temporaries = 500; blocks = 8 ∷ []; code = [] }

slots_in_reach : map (is_near large) (0 ∷ 8 ∷ 9 ∷ 499 ∷ []) ≡ false ∷ false ∷ true ∷ true ∷ []
slots_in_reach = refl

words_out_of_reach :
    map (instruction_words large) (
    move 0 (Temporary 0)
    ∷ move 9 (Byte 0)
    ∷ move 9 (Constant 2048)
    ∷ store scalars.Int (behind 0 0) (Integer 9)
    ∷ fill (zeros 11) (at_local 0)
    ∷ call (Some 0) GetChar []
    ∷ [])
    ≡ 6 ∷ 4 ∷ 3 ∷ 5 ∷ 12 ∷ 5 ∷ []
words_out_of_reach = refl

words_of_parameters : words large ≡ 22
words_of_parameters = refl

-- ---- places

its_slots : (all_slots (function_of [])).at ≡ Slot 0 ∷ Slot 1 ∷ Slot 2 ∷ Slot 3 ∷ []
its_slots = refl

slots_are_accepted : Accepted (function_of []) (record { at = Slot 0 ∷ Slot 1 ∷ Slot 2 ∷ Slot 3 ∷ []; needed = (7 ∷ []) ∷ [] })
slots_are_accepted = own_slots refl

saved_registers : map is_saved_register (7 ∷ 8 ∷ 9 ∷ 10 ∷ 17 ∷ 18 ∷ 27 ∷ 28 ∷ []) ≡ false ∷ true ∷ true ∷ false ∷ false ∷ true ∷ true ∷ false ∷ []
saved_registers = refl

registers_for_steps : map is_for_steps (5 ∷ 9 ∷ 10 ∷ 17 ∷ 18 ∷ 27 ∷ []) ≡ false ∷ false ∷ true ∷ true ∷ false ∷ false ∷ []
registers_for_steps = refl

registers_for_values :
    map is_for_values (4 ∷ 5 ∷ 9 ∷ 10 ∷ 17 ∷ 18 ∷ 31 ∷ 32 ∷ [])
    ≡ false ∷ true ∷ true ∷ false ∷ false ∷ true ∷ true ∷ false ∷ []
registers_for_values = refl

-- temporaries 0 and 3 share slot 1, temporaries 1 and 4 slot 0; 2 stands in x8 and 5 in slot 3
abbrev shared_slots : List Place
shared_slots = Slot 1 ∷ Slot 0 ∷ Register 8 ∷ Slot 1 ∷ Slot 0 ∷ Slot 3 ∷ []

counted_slots : slots_among shared_slots ≡ 5
counted_slots = refl

-- the slot of the last temporary comes first
ranked_slots : map (slot_rank shared_slots) (3 ∷ 0 ∷ 1 ∷ []) ≡ 0 ∷ 1 ∷ 2 ∷ []
ranked_slots = refl

own_slots_ranked : map (slot_rank (slots_from 0 4)) (0 ∷ 1 ∷ 2 ∷ 3 ∷ []) ≡ 3 ∷ 2 ∷ 1 ∷ 0 ∷ []
own_slots_ranked = refl

-- ---- what comes next

what_follows :
    map (λ i. nexts i 6) (returns (Temporary 0) ∷ jump 2 ∷ branch (Zero (Temporary 0)) 2 ∷ move 0 (Constant 1) ∷ [])
    ≡ [] ∷ (2 ∷ []) ∷ (7 ∷ 2 ∷ []) ∷ (7 ∷ []) ∷ []
what_follows = refl
