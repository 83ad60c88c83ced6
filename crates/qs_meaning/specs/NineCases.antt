-- What is promised of runs that are undefined: they are so in the nine cases alone.
use Rattle.std.specs.Prelude.{◌≡◌, ℕ, ◌<◌, true, List, All, Some}
use Rattle.std.specs.List.{slice_get}
use Rattle.qs_syntax.specs.Trees.{UnitTree}
use Rattle.qs_syntax.specs.Units.{IsRead}
use Rattle.qs_types.specs.Limits.{IsWithinLimits}
use Rattle.qs_types.specs.WellTyped.{WellTyped}
use Rattle.qs_memory.specs.Values.{Value}
use Rattle.qs_events.specs.Runs.{undefined}
use Rattle.qs_calls.specs.World.{World, RootRun}
use Rattle.qs_calls.specs.Starts.{Takes, MayStart}
use Rattle.qs_meaning.specs.Typed.{TypedProgram}
use Rattle.qs_meaning.specs.Interfaces.{interface_of}
use Rattle.qs_meaning.specs.Fits.{program_fits}
use Rattle.qs_meaning.specs.Runs.{run_of, main_from, start_world, main_run}
use Rattle.qs_meaning.specs.Units.{initial_memory, typed_of}
use Rattle.qs_meaning.specs.Elsewhere as elsewhere

-- a run of a unit whose tree fits comes to no place where the meaning has no answer and none of the nine cases is met: how runs went on at
-- such places would make no difference to it
abbrev pub NoOtherPlace : Type 0
NoOtherPlace =
    (other : RootRun) (u : TypedProgram) (root : ℕ) (xs : List Value) (w : World) (n : ℕ)
    → program_fits u ≡ true → MayStart (interface_of u) root xs w → run_of u root xs w n ≡ elsewhere.run_of other u root xs w n

-- nor does a run of a unit that is read, well typed and within the limits
abbrev pub UndefinedInNineCases : Type 0
UndefinedInNineCases =
    (other : RootRun) (unit : UnitTree) (u : TypedProgram) (root : ℕ) (xs : List Value) (w : World) (n : ℕ)
    → IsRead unit → WellTyped unit → IsWithinLimits unit → typed_of unit ≡ Some u → MayStart (interface_of u) root xs w
    → run_of u root xs w n ≡ elsewhere.run_of other u root xs w n

-- nor does that of its main from the initial memory, on arguments of the types of main's parameters and an input of bytes
abbrev pub MainUndefinedInNineCases : Type 0
MainUndefinedInNineCases =
    (other : RootRun) (unit : UnitTree) (u : TypedProgram) (main : ℕ) (xs : List Value) (input : List ℕ) (n : ℕ)
    → IsRead unit → WellTyped unit → IsWithinLimits unit → typed_of unit ≡ Some u → main_from 0 u.functions ≡ Some main
    → Takes (initial_memory u) (slice_get (interface_of u).functions main) xs → All (λ byte. byte < 256) input
    → main_run u xs input n ≡ elsewhere.run_of other u main xs (start_world u input) n

-- what has another run at such places is the meaning itself where that run is undefined, of any tree, from anywhere
abbrev pub ElsewhereIsTheMeaning : Type 0
ElsewhereIsTheMeaning =
    (u : TypedProgram) (root : ℕ) (xs : List Value) (w : World) (n : ℕ) → elsewhere.run_of undefined u root xs w n ≡ run_of u root xs w n
