-- Relations of runs that events keep. A meaning by continuations keeps each of them; that runs grow
-- with their bound, and that a call is the call alone and then what follows, are instances.
use Rattle.std.specs.Prelude.{ℕ, List, Option}
use Rattle.qs_memory.specs.Values.{Value}
use Rattle.qs_events.specs.Events.{Event}
use Rattle.qs_events.specs.Runs.{emit, undefined}
use Rattle.qs_calls.specs.World.{World, RootRun, Return, Environment}
use Rattle.qs_calls.specs.Calls.{CallsOf, Body}

abbrev pub Relation : Type 1
Relation = RootRun → RootRun → Type 0

-- an event in front of both, and what is undefined
pub record Keeps (R : Relation) : Type 0 where
  pub emit : (event : Event) (o p : RootRun) → R o p → R (emit event o) (emit event p)
  pub undefined : R undefined undefined

abbrev pub ReturnsRelated : Relation → Return → Return → Type 0
ReturnsRelated R k j = (result : Option Value) (w : World) → R (k result w) (j result w)

-- calls keep it, whatever follows them
abbrev pub CallsRelated : Relation → CallsOf → CallsOf → Type 0
CallsRelated R c d =
    (f : ℕ) (arguments : List Value) (k j : Return) → ReturnsRelated R k j
    → (w : World) → R (c f arguments k w) (d f arguments j w)

abbrev pub BodiesRelated : Relation → Body → Body → Type 0
BodiesRelated R b c =
    (first : ℕ) (k j : Return) → ReturnsRelated R k j
    → (e : Environment) (w : World) → R (b first k e w) (c first j e w)
