-- Runs of small units of linear code, computed from the definition.
use Rattle.std.proofs.Common.{◌≡◌, ℕ, Bool, true, false, List, [], ◌∷◌, slice_index_or, Option, Some, None, refl}
use Rattle.qs_memory.specs.Values.{Value, integer, address}
use Rattle.qs_memory.specs.Memory.{Memory, unset, byte, block_at, zeros, nulls, joined}
use Rattle.qs_memory.specs.declared.scalar.Scalar.TheVariants as scalars
use Rattle.qs_memory.specs.declared.operation.Signedness.TheVariants.{Signed, Unsigned}
use Rattle.qs_memory.specs.declared.operation.Direction.TheVariants.{Up, Down}
use Rattle.qs_memory.specs.declared.operation.Arithmetic.TheVariants as arithmetics
use Rattle.qs_memory.specs.declared.operation.Comparison.TheVariants as comparisons
use Rattle.qs_memory.specs.declared.operation.UnaryOperation.TheVariants as unaries
use Rattle.qs_memory.specs.declared.operation.BinaryOperation.TheVariants as binaries
use Rattle.qs_events.specs.Events.{Event, Calls, Returns, Takes, TakesEnd, Puts}
use Rattle.qs_events.specs.Runs.{emit, ended, undefined, short, events_of, Ending, has_ended, is_undefined, is_short, ending_of, Left}
use Rattle.qs_calls.specs.World.{World, with_memory, RootRun}
use Rattle.qs_calls.specs.Calls.{activate}
use Rattle.qs_calls.specs.World.{no_values}
use Rattle.qs_memory.specs.Memory.{make}
use Rattle.std.specs.Prelude.{length}
use Rattle.qs_calls.specs.declared.callee.Callee.TheVariants.{Function, PutChar, GetChar}
use Rattle.qs_calls.specs.declared.parameter.Parameter.TheVariants.{Plain, Placed}
use Rattle.qs_tac.specs.Trees.{InstructionTree, move, unary, binary, convert, address_of, load, store, copy, fill, call, jump, branch, return}
use Rattle.qs_tac.specs.Trees.{TacFunctionTree, TacUnitTree}
use Rattle.qs_tac.specs.Holders.{temporaries}
use Rattle.qs_tac.specs.Steps.{ends}
use Rattle.qs_tac.specs.Units.{tac_run, placed_run}
use Rattle.qs_tac.specs.Places.{all_slots}
use Rattle.qs_tac.specs.declared.places.Place.TheVariants.{Register}
use Rattle.qs_tac.specs.Fits.{unit_fits}
use Rattle.qs_tac.specs.declared.operands.Operand.{Operand}
use Rattle.qs_tac.specs.declared.operands.Operand.TheVariants.{Temporary, Integer, Constant, Null, Local, Data}
use Rattle.qs_tac.specs.declared.operands.Address.{Address}
use Rattle.qs_tac.specs.declared.operands.Condition.TheVariants.{NotZero, Zero, Compare, ComparePointers}

-- how a run ends: with the number that the root returns, where it is one
abbrev pub returned : Option Value → Option ℕ
returned None = None
returned (Some (integer n)) = Some n
returned (Some (address p)) = None

abbrev pub told : Ending (Left Value Memory) → Ending (Option ℕ)
told (has_ended left) = has_ended (returned left.result)
told is_undefined = is_undefined
told is_short = is_short

abbrev pub end_of : RootRun → Ending (Option ℕ)
end_of run = told (ending_of run)

-- a memory that begins with the text "A", which isn't writable, and this input
abbrev pub with_input : List ℕ → World
with_input input = record {
  memory = record { size = 2; is_live = true; is_writable = false; cells = λ offset. slice_index_or (byte 65 ∷ byte 0 ∷ []) offset unset } ∷ [];
  input = input;
}

-- one function with the parameter 0, four temporaries and a block of 8 bytes
abbrev pub function_of : List InstructionTree → TacFunctionTree
function_of code = record { parameters = Plain 0 ∷ []; temporaries = 4; blocks = 8 ∷ []; code = code }

abbrev pub unit_of : List InstructionTree → TacUnitTree
unit_of code = record { functions = function_of code ∷ []; main = 0; data_blocks = record { size = 2; is_writable = false } ∷ [] }

-- what it returns where the parameter is 7, within 16 steps
abbrev pub result_of : List InstructionTree → Ending (Option ℕ)
result_of code = end_of (tac_run (unit_of code) 0 (integer 7 ∷ []) (with_input []) 16)

abbrev events_with : (input : List ℕ) → List InstructionTree → List Event
events_with input code = events_of (tac_run (unit_of code) 0 (integer 7 ∷ []) (with_input input) 16)

abbrev pub at_local : (offset : ℕ) → Address
at_local offset = record { base = Local 0; offset = Some offset; index = None }

abbrev pub behind : (t offset : ℕ) → Address
behind t offset = record { base = Temporary t; offset = Some offset; index = None }

abbrev pub returns : Operand → InstructionTree
returns o = return (Some o)

-- ---- operands

a_constant : result_of (returns (Constant 5) ∷ []) ≡ has_ended (Some 5)
a_constant = refl

a_parameter : result_of (returns (Temporary 0) ∷ []) ≡ has_ended (Some 7)
a_parameter = refl

an_unset_temporary : result_of (returns (Temporary 1) ∷ []) ≡ is_undefined
an_unset_temporary = refl

an_integer : result_of (returns (Integer 0) ∷ []) ≡ has_ended (Some 7)
an_integer = refl

a_pointer_is_no_integer : result_of (move 1 (Local 0) ∷ returns (Integer 1) ∷ []) ≡ is_undefined
a_pointer_is_no_integer = refl

-- ---- one run for each instruction

a_move : result_of (move 1 (Temporary 0) ∷ move 0 (Constant 1) ∷ returns (Temporary 1) ∷ []) ≡ has_ended (Some 7)
a_move = refl

a_move_of_nothing : result_of (move 1 (Temporary 2) ∷ returns (Constant 0) ∷ []) ≡ is_undefined
a_move_of_nothing = refl

a_negation : result_of (unary (unaries.Minus Signed) 1 (Temporary 0) ∷ returns (Temporary 1) ∷ []) ≡ has_ended (Some 4294967289)
a_negation = refl

a_sum_with_a_constant :
    result_of (binary (binaries.Arithmetic arithmetics.Add Signed) 0 (Temporary 0) (Constant 4294967295) ∷ returns (Temporary 0) ∷ [])
    ≡ has_ended (Some 6)
a_sum_with_a_constant = refl

a_division_by_zero :
    result_of (binary (binaries.Arithmetic arithmetics.Divide Signed) 1 (Temporary 0) (Constant 0) ∷ returns (Constant 0) ∷ []) ≡ is_undefined
a_division_by_zero = refl

-- -1 >> 1 is -1 for an `int`
a_shift_with_the_sign :
    result_of (binary (binaries.Arithmetic arithmetics.ShiftRight Signed) 1 (Constant 4294967295) (Constant 1) ∷ returns (Temporary 1) ∷ [])
    ≡ has_ended (Some 4294967295)
a_shift_with_the_sign = refl

a_comparison_is_a_number :
    result_of (binary (binaries.Compare comparisons.Less Signed) 1 (Constant 4294967295) (Temporary 0) ∷ returns (Temporary 1) ∷ [])
    ≡ has_ended (Some 1)
a_comparison_is_a_number = refl

a_comparison_without_sign :
    result_of (binary (binaries.Compare comparisons.Less Unsigned) 1 (Constant 4294967295) (Temporary 0) ∷ returns (Temporary 1) ∷ [])
    ≡ has_ended (Some 0)
a_comparison_without_sign = refl

-- 263 as a `char` is 7
a_conversion : result_of (convert scalars.Char 1 (Constant 263) ∷ returns (Temporary 1) ∷ []) ≡ has_ended (Some 7)
a_conversion = refl

-- the pointer to offset 4 is one element of 4 bytes behind the one to the start
a_member :
    result_of (address_of 1 (at_local 4) ∷ binary (binaries.Difference 4) 2 (Temporary 1) (Local 0) ∷ returns (Temporary 2) ∷ [])
    ≡ has_ended (Some 1)
a_member = refl

a_member_past_the_end : result_of (address_of 1 (at_local 9) ∷ returns (Constant 0) ∷ []) ≡ is_undefined
a_member_past_the_end = refl

a_member_of_null : result_of (address_of 1 (record { base = Null; offset = Some 0; index = None }) ∷ returns (Constant 0) ∷ []) ≡ is_undefined
a_member_of_null = refl

a_pointer_is_moved :
    result_of (
    binary (binaries.Move Up Signed 4) 1 (Local 0) (Constant 2)
    ∷ binary (binaries.Move Down Signed 4) 2 (Temporary 1) (Constant 1)
    ∷ store scalars.Int (behind 2 0) (Constant 9) ∷ load scalars.Int 3 (at_local 4) ∷ returns (Temporary 3) ∷ [])
    ≡ has_ended (Some 9)
a_pointer_is_moved = refl

a_load_of_data : result_of (load scalars.Char 1 (record { base = Data 0; offset = Some 0; index = None }) ∷ returns (Temporary 1) ∷ []) ≡ has_ended (Some 65)
a_load_of_data = refl

a_load_of_what_is_unset : result_of (load scalars.Int 1 (at_local 0) ∷ returns (Constant 0) ∷ []) ≡ is_undefined
a_load_of_what_is_unset = refl

a_store : result_of (store scalars.Int (at_local 4) (Temporary 0) ∷ load scalars.Char 1 (at_local 4) ∷ returns (Temporary 1) ∷ []) ≡ has_ended (Some 7)
a_store = refl

a_store_past_the_end : result_of (store scalars.Int (at_local 8) (Temporary 0) ∷ returns (Constant 0) ∷ []) ≡ is_undefined
a_store_past_the_end = refl

a_store_into_a_text : result_of (store scalars.Char (record { base = Data 0; offset = Some 0; index = None }) (Constant 66) ∷ returns (Constant 0) ∷ []) ≡ is_undefined
a_store_into_a_text = refl

a_copy :
    result_of (store scalars.Int (at_local 0) (Constant 513) ∷ copy 4 4 (at_local 4) (at_local 0) ∷ load scalars.Int 1 (at_local 4) ∷ returns (Temporary 1) ∷ [])
    ≡ has_ended (Some 513)
a_copy = refl

a_fill :
    result_of (
    fill (joined (zeros 4) (nulls 1)) (at_local 0) ∷ load scalars.Int 1 (at_local 0) ∷ load scalars.Pointer 2 (at_local 4)
    ∷ branch (NotZero (Temporary 2)) 5 ∷ returns (Temporary 1) ∷ returns (Constant 1) ∷ [])
    ≡ has_ended (Some 0)
a_fill = refl

a_jump : result_of (jump 2 ∷ returns (Constant 1) ∷ returns (Constant 2) ∷ []) ≡ has_ended (Some 2)
a_jump = refl

a_branch_is_taken : result_of (branch (Compare comparisons.Greater Signed (Temporary 0) (Constant 6)) 2 ∷ returns (Constant 1) ∷ returns (Constant 2) ∷ []) ≡ has_ended (Some 2)
a_branch_is_taken = refl

a_branch_is_not_taken : result_of (branch (Zero (Temporary 0)) 2 ∷ returns (Constant 1) ∷ returns (Constant 2) ∷ []) ≡ has_ended (Some 1)
a_branch_is_not_taken = refl

a_branch_on_a_pointer : result_of (branch (NotZero (Local 0)) 2 ∷ returns (Constant 1) ∷ returns (Constant 2) ∷ []) ≡ has_ended (Some 2)
a_branch_on_a_pointer = refl

-- equality of pointers into different blocks, both strictly inside
a_branch_on_two_pointers : result_of (branch (ComparePointers comparisons.Equal (Local 0) (Data 0)) 2 ∷ returns (Constant 1) ∷ returns (Constant 2) ∷ []) ≡ has_ended (Some 1)
a_branch_on_two_pointers = refl

-- and their order is undefined
an_order_of_two_blocks : result_of (branch (ComparePointers comparisons.Less (Local 0) (Data 0)) 2 ∷ returns (Constant 1) ∷ returns (Constant 2) ∷ []) ≡ is_undefined
an_order_of_two_blocks = refl

a_return_without_result : result_of (return None ∷ []) ≡ has_ended None
a_return_without_result = refl

the_end_of_the_code : result_of (move 1 (Constant 1) ∷ []) ≡ is_undefined
the_end_of_the_code = refl

-- ---- input and output

bytes_are_taken_and_put :
    events_with (104 ∷ [])
    (call (Some 1) GetChar [] ∷ call None PutChar (Temporary 1 ∷ []) ∷ call (Some 1) GetChar [] ∷ returns (Temporary 1) ∷ [])
    ≡ Calls 0 ∷ Takes 104 ∷ Puts 104 ∷ TakesEnd ∷ Returns 0 ∷ []
bytes_are_taken_and_put = refl

the_end_of_the_input_is_minus_one : result_of (call (Some 1) GetChar [] ∷ returns (Temporary 1) ∷ []) ≡ has_ended (Some 4294967295)
the_end_of_the_input_is_minus_one = refl

what_is_put_is_returned : result_of (call (Some 1) PutChar (Constant 321 ∷ []) ∷ returns (Temporary 1) ∷ []) ≡ has_ended (Some 65)
what_is_put_is_returned = refl

-- ---- a loop, step by step: for (n = 2; n != 0; n = n - 1) putchar(n)

abbrev counts : TacUnitTree
counts = unit_of (
    move 0 (Constant 2)
    ∷ jump 4
    ∷ call None PutChar (Temporary 0 ∷ [])
    ∷ binary (binaries.Arithmetic arithmetics.Subtract Signed) 0 (Temporary 0) (Constant 1)
    ∷ branch (NotZero (Temporary 0)) 2
    ∷ returns (Constant 0)
    ∷ [])

abbrev counts_within : ℕ → RootRun
counts_within m = tac_run counts 0 (integer 7 ∷ []) (with_input []) m

counts_fits : unit_fits counts ≡ true
counts_fits = refl

no_step : counts_within 0 ≡ short
no_step = refl

the_first_step_enters : counts_within 1 ≡ emit (Calls 0) short
the_first_step_enters = refl

it_is_in_its_first_turn : counts_within 5 ≡ emit (Calls 0) (emit (Puts 2) short)
it_is_in_its_first_turn = refl

it_is_in_its_second_turn : events_of (counts_within 8) ≡ Calls 0 ∷ Puts 2 ∷ Puts 1 ∷ []
it_is_in_its_second_turn = refl

it_has_not_ended : end_of (counts_within 10) ≡ is_short
it_has_not_ended = refl

it_has_ended : end_of (counts_within 11) ≡ has_ended (Some 0)
it_has_ended = refl

its_events : events_of (counts_within 11) ≡ Calls 0 ∷ Puts 2 ∷ Puts 1 ∷ Returns 0 ∷ []
its_events = refl

more_steps_change_nothing : counts_within 99 ≡ counts_within 11
more_steps_change_nothing = refl

-- ---- calls

-- f(n) is 0 for 0, and else f(n - 1) + n; its block holds n meanwhile
abbrev sums : TacUnitTree
sums = unit_of (
    branch (NotZero (Temporary 0)) 2
    ∷ returns (Constant 0)
    ∷ store scalars.Int (at_local 4) (Temporary 0)
    ∷ binary (binaries.Arithmetic arithmetics.Subtract Unsigned) 1 (Temporary 0) (Constant 1)
    ∷ call (Some 0) (Function (record { 0 = 0 })) (Temporary 1 ∷ [])
    ∷ load scalars.Int 1 (at_local 4)
    ∷ binary (binaries.Arithmetic arithmetics.Add Unsigned) 1 (Temporary 0) (Temporary 1)
    ∷ returns (Temporary 1)
    ∷ [])

abbrev sums_within : ℕ → RootRun
sums_within m = tac_run sums 0 (integer 3 ∷ []) (with_input []) m

a_recursion : end_of (sums_within 40) ≡ has_ended (Some 6)
a_recursion = refl

events_of_a_recursion : events_of (sums_within 40) ≡ Calls 0 ∷ Calls 0 ∷ Calls 0 ∷ Calls 0 ∷ Returns 0 ∷ Returns 0 ∷ Returns 0 ∷ Returns 0 ∷ []
events_of_a_recursion = refl

calls_before_the_bound : sums_within 6 ≡ emit (Calls 0) (emit (Calls 0) short)
calls_before_the_bound = refl

abbrev calls_itself : (x : Option ℕ) → TacUnitTree
calls_itself x = unit_of (branch (Zero (Temporary 0)) 3 ∷ call x (Function (record { 0 = 0 })) (Constant 0 ∷ []) ∷ returns (Constant 1) ∷ return None ∷ [])

-- 6.9.1p12: it is undefined behind the event of the return
a_result_that_is_missing : tac_run (calls_itself (Some 1)) 0 (integer 7 ∷ []) (with_input []) 9 ≡ emit (Calls 0) (emit (Calls 0) (emit (Returns 0) undefined))
a_result_that_is_missing = refl

a_result_that_nobody_uses : end_of (tac_run (calls_itself None) 0 (integer 7 ∷ []) (with_input []) 9) ≡ has_ended (Some 1)
a_result_that_nobody_uses = refl

a_function_that_is_not_there : result_of (call None (Function (record { 0 = 1 })) (Constant 0 ∷ []) ∷ returns (Constant 0) ∷ []) ≡ is_undefined
a_function_that_is_not_there = refl

a_root_that_is_not_there : tac_run counts 1 [] (with_input []) 3 ≡ undefined
a_root_that_is_not_there = refl

an_argument_too_few : tac_run counts 0 [] (with_input []) 3 ≡ emit (Calls 0) undefined
an_argument_too_few = refl

-- the caller's temporaries are as they were, and the callee begins with its parameters alone
values_of_calls_are_apart :
    result_of (
    branch (Compare comparisons.Equal Signed (Temporary 0) (Constant 7)) 2 ∷ returns (Temporary 1)
    ∷ move 1 (Constant 3) ∷ call (Some 2) (Function (record { 0 = 0 })) (Constant 0 ∷ []) ∷ returns (Temporary 1) ∷ [])
    ≡ is_undefined
values_of_calls_are_apart = refl

-- ---- blocks

-- a pointer to a local of a call that has ended: the call's block is released before its result goes on
a_released_block :
    result_of (
    branch (Zero (Temporary 0)) 3
    ∷ call (Some 1) (Function (record { 0 = 0 })) (Constant 0 ∷ [])
    ∷ store scalars.Int (behind 1 0) (Constant 1)
    ∷ returns (Local 0)
    ∷ [])
    ≡ is_undefined
a_released_block = refl

-- but the pointer itself goes on
a_released_block_is_returned :
    result_of (branch (Zero (Temporary 0)) 3 ∷ call (Some 1) (Function (record { 0 = 0 })) (Constant 0 ∷ []) ∷ returns (Constant 2) ∷ returns (Local 0) ∷ [])
    ≡ has_ended (Some 2)
a_released_block_is_returned = refl

-- whether the blocks are live that a run leaves
abbrev live_left : Ending (Left Value Memory) → List Bool
live_left (has_ended left) = (block_at left.memory 0).is_live ∷ (block_at left.memory 1).is_live ∷ []
live_left is_undefined = []
live_left is_short = []

the_root_releases_its_own :
    live_left (ending_of (tac_run (unit_of (returns (Constant 0) ∷ [])) 0 (integer 7 ∷ []) (with_input []) 2)) ≡ true ∷ false ∷ []
the_root_releases_its_own = refl

-- a parameter whose address is taken is in its block
a_placed_parameter :
    end_of (tac_run (record {
      functions = record { parameters = Placed 0 scalars.Char ∷ Plain 1 ∷ []; temporaries = 3; blocks = 1 ∷ []; code = load scalars.Char 2 (at_local 0) ∷ returns (Temporary 2) ∷ [] } ∷ [];
      main = 0;
      data_blocks = [];
    }) 0 (integer 9 ∷ integer 8 ∷ []) (with_input []) 3)
    ≡ has_ended (Some 9)
a_placed_parameter = refl

-- ---- a call ends as the calls of a source do: this is what follows the body there

abbrev ends_apart : (f first : ℕ) → World → RootRun
ends_apart f first w = ends temporaries (λ a v stack. undefined) (record { function = f; at = 0; first_block = first; held = no_values }) [] None w

it_ends_as_calls_do :
    (f : ℕ) (w : World)
    → activate f (record { parameters = []; blocks = 3 ∷ [] }) (λ first k e u. k None u) [] (λ result u. ended (record { result = result; memory = u.memory; input = u.input })) w
    ≡ emit (Calls f) (ends_apart f (length w.memory) (with_memory w (make (3 ∷ []) w.memory)))
it_ends_as_calls_do f w = refl

-- ---- with values in places: a slot for each temporary

in_slots : placed_run sums (all_slots (function_of []) ∷ []) 0 (integer 3 ∷ []) (with_input []) 40 ≡ sums_within 40
in_slots = refl

abbrev in_registers : (for_the_parameter : ℕ) → Ending (Option ℕ)
in_registers r =
    end_of (placed_run (unit_of (branch (Zero (Temporary 0)) 3 ∷ call None (Function (record { 0 = 0 })) (Constant 0 ∷ []) ∷ returns (Temporary 0) ∷ returns (Constant 2) ∷ []))
    (record { at = Register r ∷ []; needed = [] } ∷ []) 0 (integer 7 ∷ []) (with_input []) 8)

-- a callee gives x9 back as it was, and not x10
a_saved_register : in_registers 9 ≡ has_ended (Some 7)
a_saved_register = refl

another_register : in_registers 10 ≡ is_undefined
another_register = refl
