-- What is promised of the meaning of core.
use Rattle.std.specs.Prelude.{◌≡◌, ◌≤◌, ℕ, List}
use Rattle.qs_memory.specs.Values.{Value}
use Rattle.qs_events.specs.Runs.{followed_by, Within}
use Rattle.qs_calls.specs.World.{World, Return, leaves}
use Rattle.qs_core.specs.Trees.{CoreUnitTree}
use Rattle.qs_core.specs.Units.{calls_within, core_run}

-- a greater bound keeps what has ended or is undefined, and extends the trace of what is short
abbrev pub CoreGrows : Type 0
CoreGrows =
    (u : CoreUnitTree) (root : ℕ) (arguments : List Value) (w : World) (m n : ℕ) → m ≤ n
    → Within (core_run u root arguments w m) (core_run u root arguments w n)

-- a call is the call alone, and then what follows
abbrev pub CallsAlone : Type 0
CallsAlone =
    (u : CoreUnitTree) (turns depth f : ℕ) (arguments : List Value) (k : Return) (w : World)
    → followed_by (calls_within u turns depth f arguments leaves w)
    (λ left. k left.result (record { memory = left.memory; input = left.input }))
    ≡ calls_within u turns depth f arguments k w
