-- Runs of small units, computed from the definition.
use Rattle.std.proofs.Common.{◌≡◌, ℕ, ◌+◌, true, false, List, [], ◌∷◌, codes, Option, Some, None, refl}
use Rattle.qs_memory.specs.Values.{Value, integer, address}
use Rattle.qs_memory.specs.Memory.{Memory, zeros}
use Rattle.qs_memory.specs.declared.scalar.Scalar.TheVariants as scalars
use Rattle.qs_memory.specs.declared.operation.Signedness.TheVariants.{Signed}
use Rattle.qs_memory.specs.declared.operation.Direction.TheVariants.{Up}
use Rattle.qs_memory.specs.declared.operation.Arithmetic.TheVariants as arithmetics
use Rattle.qs_memory.specs.declared.operation.Comparison.TheVariants as comparisons
use Rattle.qs_memory.specs.declared.operation.BinaryOperation.TheVariants as binaries
use Rattle.qs_events.specs.Events.{Calls, Returns, Takes, TakesEnd, Puts}
use Rattle.qs_events.specs.Runs.{emit, undefined, events_of, Ending, has_ended, is_undefined, is_short, ending_of, Left}
use Rattle.qs_events.specs.Weights.{run_weight}
use Rattle.qs_calls.specs.World.{RootRun}
use Rattle.qs_calls.specs.declared.callee.Callee.TheVariants.{Function, PutChar, GetChar}
use Rattle.qs_core.specs.declared.numbers.BlockId.TheVariants.{Local, Data}
use Rattle.qs_core.specs.declared.numbers.Target.TheVariants as targets
use Rattle.qs_base.specs.Names.{is_name}
use Rattle.qs_base.specs.Keywords.{is_keyword, keyword_of}
use Rattle.qs_core.specs.Trees.{CoreExprTree, literal, variable, temporary, address_of, load, binary, CoreStmtTree, skip, seq, assign, store, fill, call, branch, loop, break, continue, return, stmts_of, bytes, CoreFunctionTree, CoreUnitTree}
use Rattle.qs_core.specs.Units.{core_run, main_run}
use Rattle.qs_core.specs.Fits.{unit_fits}
use Rattle.qs_core.proofs.OutlineExamples.{whole}

-- how a run ends: with the number that main returns, where it is one
abbrev returned : Option Value → Option ℕ
returned None = None
returned (Some (integer n)) = Some n
returned (Some (address p)) = None

abbrev told : Ending (Left Value Memory) → Ending (Option ℕ)
told (has_ended left) = has_ended (returned left.result)
told is_undefined = is_undefined
told is_short = is_short

abbrev pub end_of : RootRun → Ending (Option ℕ)
end_of run = told (ending_of run)

-- ---- calls: main calls f (2), which calls itself twice

recursion : events_of (main_run whole (integer 2 ∷ []) [] 4) ≡ Calls 1 ∷ Calls 0 ∷ Calls 0 ∷ Calls 0 ∷ Returns 0 ∷ Returns 0 ∷ Returns 0 ∷ Returns 1 ∷ []
recursion = refl

recursion_ends : end_of (main_run whole (integer 2 ∷ []) [] 4) ≡ has_ended (Some 0)
recursion_ends = refl

recursion_is_too_deep : end_of (main_run whole (integer 2 ∷ []) [] 3) ≡ is_short
recursion_is_too_deep = refl

calls_before_the_bound : events_of (main_run whole (integer 2 ∷ []) [] 3) ≡ Calls 1 ∷ Calls 0 ∷ Calls 0 ∷ []
calls_before_the_bound = refl

-- each call takes 16 bytes
recursion_weighs : run_weight (λ f. 16) (main_run whole (integer 2 ∷ []) [] 4) ≡ 64
recursion_weighs = refl

-- ---- a main with one `int` variable c, one temporary, a block of 8 bytes and the text "A", and a function that ends without its result

abbrev quiet : CoreFunctionTree
quiet = record {
  name = codes "quiet";
  parameters = [];
  variables = [];
  temporaries = [];
  blocks = [];
  result_type = Some scalars.Int;
  body = stmts_of [];
}

abbrev pub main_with : List CoreStmtTree → CoreUnitTree
main_with body = record {
  functions = record {
    name = codes "main";
    parameters = [];
    variables = record { name = codes "c"; ordinal = 1; scalar = scalars.Int } ∷ [];
    temporaries = scalars.Int ∷ [];
    blocks = 8 ∷ [];
    result_type = Some scalars.Int;
    body = stmts_of body;
  } ∷ quiet ∷ [];
  main = 0;
  data_blocks = record { is_writable = false; pieces = bytes (65 ∷ 0 ∷ []) ∷ [] } ∷ [];
}

abbrev pub int : ℕ → CoreExprTree
int n = literal scalars.Int n

abbrev pub c : CoreExprTree
c = variable scalars.Int 0

-- the element of the block
abbrev element : ℕ → CoreExprTree
element i = binary (binaries.Move Up Signed 4) (address_of (Local 0)) (int i)

-- while ((c = getchar()) != -1) putchar(c); return 0;
abbrev copies : CoreUnitTree
copies = main_with (
    loop
    (seq (stmts_of (
    call (Some 0) GetChar []
    ∷ assign (targets.Variable 0) (temporary scalars.Int 0)
    ∷ branch (binary (binaries.Compare comparisons.NotEqual Signed) c (int 4294967295)) (call None PutChar (c ∷ [])) break
    ∷ [])))
    skip
    ∷ return (Some (int 0))
    ∷ [])

it_fits : unit_fits copies ≡ true
unfolding is_name is_keyword keyword_of
it_fits = refl

input_is_copied : events_of (main_run copies [] (104 ∷ 105 ∷ []) 3) ≡ Calls 0 ∷ Takes 104 ∷ Puts 104 ∷ Takes 105 ∷ Puts 105 ∷ TakesEnd ∷ Returns 0 ∷ []
input_is_copied = refl

copying_ends : end_of (main_run copies [] (104 ∷ 105 ∷ []) 3) ≡ has_ended (Some 0)
copying_ends = refl

a_turn_too_many : end_of (main_run copies [] (104 ∷ 105 ∷ []) 2) ≡ is_short
a_turn_too_many = refl

-- ---- loops: c counts from 0 in the step, and what the body does is put

abbrev pub counted : (body : CoreStmtTree) → CoreUnitTree
counted body = main_with (
    assign (targets.Variable 0) (int 0)
    ∷ loop body (assign (targets.Variable 0) (binary (binaries.Arithmetic arithmetics.Add Signed) c (int 1)))
    ∷ return (Some c)
    ∷ [])

abbrev is_two : CoreExprTree
is_two = binary (binaries.Compare comparisons.Equal Signed) c (int 2)

-- for (c = 0; c != 2; c++) putchar(c);
abbrev two_turns : CoreUnitTree
two_turns = counted (branch is_two break (call None PutChar (c ∷ [])))

no_turn_at_all : end_of (main_run two_turns [] [] 0) ≡ is_short
no_turn_at_all = refl

no_event_at_0 : events_of (main_run two_turns [] [] 0) ≡ []
no_event_at_0 = refl

one_turn : events_of (main_run two_turns [] [] 1) ≡ Calls 0 ∷ Puts 0 ∷ []
one_turn = refl

one_turn_is_short : end_of (main_run two_turns [] [] 1) ≡ is_short
one_turn_is_short = refl

two_turns_are_short : end_of (main_run two_turns [] [] 2) ≡ is_short
two_turns_are_short = refl

three_turns_end : end_of (main_run two_turns [] [] 3) ≡ has_ended (Some 2)
three_turns_end = refl

three_turns_put : events_of (main_run two_turns [] [] 3) ≡ Calls 0 ∷ Puts 0 ∷ Puts 1 ∷ Returns 0 ∷ []
three_turns_put = refl

-- a continue goes to the step, so the body's rest isn't reached in it
continued : events_of (main_run (counted (seq (stmts_of (branch is_two break continue ∷ call None PutChar (c ∷ []) ∷ [])))) [] [] 3) ≡ Calls 0 ∷ Returns 0 ∷ []
continued = refl

-- a break in the step ends the loop too
broken_by_the_step : end_of (main_run (main_with (loop (assign (targets.Variable 0) (int 7)) break ∷ return (Some c) ∷ [])) [] [] 1) ≡ has_ended (Some 7)
broken_by_the_step = refl

-- an inner loop begins anew in each turn of the outer one, and its break ends it alone
abbrev nested : CoreUnitTree
nested = counted (seq (stmts_of (branch is_two break skip ∷ loop (call None PutChar (c ∷ [])) break ∷ [])))

inner_loops : events_of (main_run nested [] [] 3) ≡ Calls 0 ∷ Puts 0 ∷ Puts 1 ∷ Returns 0 ∷ []
inner_loops = refl

-- ---- weights

-- a call takes what its function costs, and its return gives it back: the weight is the greatest sum on the way
a_weight_on_the_way : run_weight (λ f. f + 1) (main_run whole (integer 1 ∷ []) [] 3) ≡ 4
a_weight_on_the_way = refl

other_events_weigh_nothing : run_weight (λ f. 16) (main_run two_turns [] [] 3) ≡ 16
other_events_weigh_nothing = refl

-- ---- memory

a_list_is_filled : end_of (main_run (main_with (fill (zeros 8) (address_of (Local 0)) ∷ store scalars.Int (element 0) (int 5) ∷ return (Some (load scalars.Int (element 1))) ∷ [])) [] [] 1) ≡ has_ended (Some 0)
a_list_is_filled = refl

a_local_begins_unset : end_of (main_run (main_with (return (Some (load scalars.Int (element 1))) ∷ [])) [] [] 1) ≡ is_undefined
a_local_begins_unset = refl

a_store_past_the_end : end_of (main_run (main_with (store scalars.Int (element 2) (int 5) ∷ return (Some (int 0)) ∷ [])) [] [] 1) ≡ is_undefined
a_store_past_the_end = refl

a_text_is_read : end_of (main_run (main_with (return (Some (load scalars.Char (address_of (Data 0)))) ∷ [])) [] [] 1) ≡ has_ended (Some 65)
a_text_is_read = refl

a_text_is_not_written : end_of (main_run (main_with (store scalars.Char (address_of (Data 0)) (literal scalars.Char 66) ∷ return (Some (int 0)) ∷ [])) [] [] 1) ≡ is_undefined
a_text_is_not_written = refl

-- ---- variables and results

an_unset_variable : end_of (main_run (main_with (return (Some c) ∷ [])) [] [] 1) ≡ is_undefined
an_unset_variable = refl

-- the event of the return comes first
no_result_is_used : events_of (main_run (main_with (call (Some 0) (Function (record { 0 = 1 })) [] ∷ return (Some (int 0)) ∷ [])) [] [] 2) ≡ Calls 0 ∷ Calls 1 ∷ Returns 1 ∷ []
no_result_is_used = refl

no_result_is_undefined : end_of (main_run (main_with (call (Some 0) (Function (record { 0 = 1 })) [] ∷ return (Some (int 0)) ∷ [])) [] [] 2) ≡ is_undefined
no_result_is_undefined = refl

a_result_that_nobody_uses : end_of (main_run (main_with (call None (Function (record { 0 = 1 })) [] ∷ return (Some (int 0)) ∷ [])) [] [] 2) ≡ has_ended (Some 0)
a_result_that_nobody_uses = refl

-- ---- roots

-- no function has the number 2
an_unknown_root : core_run copies 2 [] (record { memory = []; input = [] }) 1 ≡ undefined
an_unknown_root = refl

a_surplus_argument : core_run copies 1 (integer 1 ∷ []) (record { memory = []; input = [] }) 1 ≡ emit (Calls 1) undefined
a_surplus_argument = refl
