-- Calls, computed from the definition.
use Rattle.std.proofs.Common.{◌≡◌, ℕ, Bool, true, false, List, [], ◌∷◌, Option, Some, None, refl}
use Rattle.qs_memory.specs.Values.{null, into, Value, integer, address}
use Rattle.qs_memory.specs.Memory.{Memory, block_at, load, make}
use Rattle.qs_memory.specs.declared.scalar.Scalar.TheVariants as scalars
use Rattle.qs_events.specs.Events.{Calls, Returns, Takes, TakesEnd, Puts}
use Rattle.qs_events.specs.Runs.{emit, ended, undefined, events_of, Ending, has_ended, is_undefined, is_short, ending_of, Left}
use Rattle.qs_calls.specs.World.{World, RootRun, leaves, status_of}
use Rattle.qs_calls.specs.Calls.{CallsOf, invoke, Body, activate, used}
use Rattle.qs_calls.specs.declared.callee.Callee.TheVariants.{PutChar, GetChar}
use Rattle.qs_calls.specs.declared.parameter.Parameter.{Parameter}
use Rattle.qs_calls.specs.declared.parameter.Parameter.TheVariants.{Plain, Placed}

-- a world of no blocks, and this input
abbrev with_input : List ℕ → World
with_input input = record { memory = []; input = input }

abbrev left_by : Option Value → (input : List ℕ) → RootRun
left_by result input = ended (record { result = result; memory = []; input = input })

-- no function has a body
abbrev no_calls : CallsOf
no_calls f arguments k w = undefined

-- ---- putchar and getchar

a_byte_is_taken :
    invoke GetChar no_calls [] leaves (with_input (255 ∷ 1 ∷ []))
    ≡ emit (Takes 255) (left_by (Some (integer 255)) (1 ∷ []))
a_byte_is_taken = refl

the_end_is_taken :
    invoke GetChar no_calls [] leaves (with_input [])
    ≡ emit TakesEnd (left_by (Some (integer 4294967295)) [])
the_end_is_taken = refl

getchar_with_an_argument :
    invoke GetChar no_calls (integer 0 ∷ []) leaves (with_input (1 ∷ [])) ≡ undefined
getchar_with_an_argument = refl

a_byte_is_put :
    invoke PutChar no_calls (integer 321 ∷ []) leaves (with_input [])
    ≡ emit (Puts 65) (left_by (Some (integer 65)) [])
a_byte_is_put = refl

putchar_without_argument : invoke PutChar no_calls [] leaves (with_input []) ≡ undefined
putchar_without_argument = refl

putchar_with_two :
    invoke PutChar no_calls (integer 65 ∷ integer 66 ∷ []) leaves (with_input []) ≡ undefined
putchar_with_two = refl

putchar_of_a_pointer :
    invoke PutChar no_calls (address null ∷ []) leaves (with_input []) ≡ undefined
putchar_of_a_pointer = refl

-- ---- functions with a body

-- what a run shows: its events, its result, and whether the first block is live at its end
pub record Shown : Type 0 where
  pub result : Option Value
  pub is_live : Bool

abbrev shown : Ending (Left Value Memory) → Option Shown
shown (has_ended left) =
    Some (record { result = left.result; is_live = (block_at left.memory 0).is_live })
shown is_undefined = None
shown is_short = None

abbrev end_of : RootRun → Option Shown
end_of run = shown (ending_of run)

abbrev returned : Value → Option Shown
returned v = Some (record { result = Some v; is_live = false })

abbrev nothing_returned : Option Shown
nothing_returned = Some (record { result = None; is_live = false })

-- a call of function 7, which has a block of 4 bytes
abbrev called : List Parameter → Body → List Value → RootRun
called parameters body arguments =
    activate 7 (record { parameters = parameters; blocks = 4 ∷ [] }) body arguments leaves
    (with_input [])

-- bodies that return the value of a variable, what their block holds, and nothing
abbrev returns_variable : ℕ → Body
returns_variable x first k e w = k (e x) w

abbrev returns_block : Body
returns_block first k e w = k (load scalars.Int w.memory (into first 0)) w

abbrev returns_nothing : Body
returns_nothing first k e w = k None w

abbrev two : List Value
two = integer 5 ∷ integer 6 ∷ []

first_argument :
    end_of (called (Plain 0 ∷ Plain 1 ∷ []) (returns_variable 0) two) ≡ returned (integer 5)
first_argument = refl

second_argument :
    end_of (called (Plain 0 ∷ Plain 1 ∷ []) (returns_variable 1) two) ≡ returned (integer 6)
second_argument = refl

argument_in_a_block :
    end_of (called (Plain 0 ∷ Placed 0 scalars.Int ∷ []) returns_block two) ≡ returned (integer 6)
argument_in_a_block = refl

a_block_begins_unset : end_of (called [] returns_block []) ≡ nothing_returned
a_block_begins_unset = refl

events_of_a_call : events_of (called [] returns_nothing []) ≡ Calls 7 ∷ Returns 7 ∷ []
events_of_a_call = refl

-- a world that has a block already
abbrev with_block : World
with_block = record { memory = make (1 ∷ []) []; input = [] }

older_blocks_stay_live :
    end_of (activate 7 (record { parameters = []; blocks = 4 ∷ [] }) returns_nothing [] leaves
    with_block)
    ≡ Some (record { result = None; is_live = true })
older_blocks_stay_live = refl

too_few_arguments :
    called (Plain 0 ∷ Plain 1 ∷ []) returns_nothing (integer 5 ∷ []) ≡ emit (Calls 7) undefined
too_few_arguments = refl

too_many_arguments : called (Plain 0 ∷ []) returns_nothing two ≡ emit (Calls 7) undefined
too_many_arguments = refl

an_argument_that_does_not_fit :
    called (Placed 0 scalars.Char ∷ []) returns_nothing (integer 256 ∷ [])
    ≡ emit (Calls 7) undefined
an_argument_that_does_not_fit = refl

-- ---- results

a_used_result : used (Some (integer 3)) (λ v. left_by (Some v) []) ≡ left_by (Some (integer 3)) []
a_used_result = refl

no_result_is_used : used None (λ v. left_by (Some v) []) ≡ undefined
no_result_is_used = refl

status_modulo_256 :
    status_of (record { result = Some (integer 4294967295); memory = []; input = [] }) ≡ 255
status_modulo_256 = refl
