-- Calls, and the runs of a unit within a bound n: each run of a loop makes at most n turns, and calls nest at most n deep (C11 5.1.2.2,
-- 6.5.2.2, 6.9.1).
use Rattle.std.specs.Prelude.{ℕ, zero, suc, ◌+◌, Bool, List, [], ◌∷◌, Option, Some, None, slice_get, if◌then◌else◌}
use Rattle.qs_memory.specs.Values.{Value, integer}
use Rattle.qs_events.specs.BoundedRun.{BoundedRun}
use Rattle.qs_events.specs.Runs.{undefined, short, given, bounded}
use Rattle.qs_calls.specs.World.{World, RootRun, Return, leaves, status_of}
use Rattle.qs_calls.specs.Calls.{CallsOf, Frame, Body, activate}
use Rattle.qs_meaning.specs.Typed.{Function, TypedProgram}
use Rattle.qs_meaning.specs.States.{Next}
use Rattle.qs_meaning.specs.Meaning.{Targets, statements}
use Rattle.qs_meaning.specs.Units.{initial_memory}

-- ---- functions (6.9.1)

abbrev pub frame_of : Function → Frame
frame_of g = record { parameters = g.parameters; blocks = g.blocks }

-- 5.1.2.2.3: the end of main returns 0; another function ends without a value (6.9.1p12)
abbrev pub result_at_end : (is_main : Bool) → Option Value
result_at_end is_main = if is_main then Some (integer 0) else None

-- `break` and `continue` stand in loops alone
abbrev pub nowhere : Next
nowhere v w = undefined

abbrev pub targets : Function → Return → Targets
targets g k = record { behind = λ v. k (result_at_end g.is_main); at_break = nowhere; at_continue = nowhere; at_return = k }

abbrev pub body_of : Function → (turns : ℕ) → CallsOf → Body
body_of g n calls first k v w = statements g.body (record { turns = n; first_block = first; calls = calls }) (targets g k) v w

-- calls that nest at most so deep, in which each run of a loop makes at most so many turns; a number that no function has can't be called
abbrev pub calls_within : List Function → (turns depth : ℕ) → CallsOf
calls_within functions n zero f xs k w = short
calls_within functions n (suc depth) f xs k w =
    given (slice_get functions f) (λ g. activate f (frame_of g) (body_of g n (calls_within functions n depth)) xs k w)

-- ---- runs

-- the run of the function with this number, from these arguments, this memory and this input, within n; the root is nested one deep
abbrev pub run_of : TypedProgram → (root : ℕ) → List Value → World → (n : ℕ) → RootRun
run_of unit root xs w n = calls_within unit.functions n n root xs leaves w

-- ---- main (5.1.2.2)

abbrev pub main_from : ℕ → List Function → Option ℕ
main_from k [] = None
main_from k (g ∷ gs) = if g.is_main then Some k else main_from (k + 1) gs

abbrev pub start_world : TypedProgram → (input : List ℕ) → World
start_world unit input = record { memory = initial_memory unit; input = input }

-- the run of main from the initial memory
abbrev pub main_run : TypedProgram → List Value → (input : List ℕ) → (n : ℕ) → RootRun
main_run unit xs input n = given (main_from 0 unit.functions) (λ root. run_of unit root xs (start_world unit input) n)

-- the run of a source as agreement sees it
abbrev pub source_run : TypedProgram → List Value → (input : List ℕ) → (n : ℕ) → BoundedRun
source_run unit xs input n = bounded status_of (main_run unit xs input n)
