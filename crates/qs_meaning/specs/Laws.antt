-- What is promised of the runs of a source.
use Rattle.std.specs.Prelude.{◌≡◌, ℕ, ◌≤◌, List}
use Rattle.qs_memory.specs.Values.{Value}
use Rattle.qs_events.specs.Runs.{Within, followed_by}
use Rattle.qs_calls.specs.World.{World, Return, leaves}
use Rattle.qs_meaning.specs.Typed.{Function, TypedProgram}
use Rattle.qs_meaning.specs.Runs.{calls_within, run_of, main_run}

-- a greater bound keeps what has ended or is undefined, and goes on from where a run is short
abbrev pub RunsGrow : Type 0
RunsGrow =
    (unit : TypedProgram) (root : ℕ) (xs : List Value) (w : World) (m n : ℕ) → m ≤ n
    → Within (run_of unit root xs w m) (run_of unit root xs w n)

abbrev pub MainGrows : Type 0
MainGrows =
    (unit : TypedProgram) (xs : List Value) (input : List ℕ) (m n : ℕ) → m ≤ n
    → Within (main_run unit xs input m) (main_run unit xs input n)

-- a call is the run of the function alone, and then what follows
abbrev pub CallsFollow : Type 0
CallsFollow =
    (functions : List Function) (turns depth f : ℕ) (xs : List Value) (k : Return) (w : World)
    → followed_by (calls_within functions turns depth f xs leaves w)
    (λ left. k left.result (record { memory = left.memory; input = left.input }))
    ≡ calls_within functions turns depth f xs k w
