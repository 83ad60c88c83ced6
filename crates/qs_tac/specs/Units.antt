-- What a unit of linear code does: the run of each root function, from each memory and input, within each
-- number of steps; with its values in temporaries, and in places.
use Rattle.std.specs.Prelude.{ℕ, zero, suc, List, [], ◌∷◌, Option, Some, None}
use Rattle.std.specs.List.{slice_get}
use Rattle.qs_memory.specs.Values.{Value}
use Rattle.qs_memory.specs.Memory.{Memory}
use Rattle.qs_events.specs.Runs.{Left, Ending, has_ended, is_undefined, is_short, ending_of, short}
use Rattle.qs_calls.specs.World.{World, RootRun, leaves}
use Rattle.qs_calls.specs.declared.parameter.Parameter.{Parameter}
use Rattle.qs_calls.specs.declared.parameter.Parameter.TheVariants.{Plain, Placed}
use Rattle.qs_tac.specs.Trees.{TacFunctionTree, TacUnitTree}
use Rattle.qs_tac.specs.Holders.{Holder, temporaries, places}
use Rattle.qs_tac.specs.Steps.{Next, enters, step, instruction_at, steps}
use Rattle.qs_tac.specs.Places.{PlacesTree, place_in}

-- the first step enters the root function
abbrev pub run :
    {S : Type 0} → Holder S → TacUnitTree → (root : ℕ) → (arguments : List Value) → World → (m : ℕ) → RootRun
run h u root arguments w zero = short
run h u root arguments w (suc m) = enters h u (steps h u m) [] root arguments leaves w

-- the run that is meant: within m steps it ends, is undefined, or goes on
abbrev pub tac_run : TacUnitTree → (root : ℕ) → (arguments : List Value) → World → (m : ℕ) → RootRun
tac_run = run temporaries

-- ---- with values in places

-- the parameters that are temporaries
abbrev pub plain : List Parameter → List ℕ
plain [] = []
plain (Plain x ∷ ps) = x ∷ plain ps
plain (Placed i s ∷ ps) = plain ps

abbrev pub plain_of : Option TacFunctionTree → List ℕ
plain_of None = []
plain_of (Some f) = plain f.parameters

-- the places of each function stand by its number
abbrev pub placed_run :
    TacUnitTree → List PlacesTree → (root : ℕ) → (arguments : List Value) → World → (m : ℕ) → RootRun
placed_run u ps = run (places (λ f. plain_of (slice_get u.functions f)) (place_in ps)) u

-- ---- where a run stands that goes on

-- the same steps, but where they are used up the run stops: it leaves this result, and the world that it has there
abbrev pub stopped_steps : {S : Type 0} → Holder S → TacUnitTree → (result : Option Value) → (m : ℕ) → Next S
stopped_steps h u result zero a w stack = leaves result w
stopped_steps h u result (suc m) a w stack = step h u (instruction_at u a) (stopped_steps h u result m) a w stack

abbrev pub stopped_run :
    {S : Type 0} → Holder S → TacUnitTree → (result : Option Value) → (root : ℕ) → (arguments : List Value) → World
    → (m : ℕ) → RootRun
stopped_run h u result root arguments w zero = leaves result w
stopped_run h u result root arguments w (suc m) = enters h u (stopped_steps h u result m) [] root arguments leaves w

-- the world that is left, if one is
abbrev pub world_left : (otherwise : World) → Ending (Left Value Memory) → World
world_left otherwise (has_ended left) = record { memory = left.memory; input = left.input }
world_left otherwise is_undefined = otherwise
world_left otherwise is_short = otherwise

-- the world that the run has after m steps, where it goes on
abbrev pub world_after : TacUnitTree → (root : ℕ) → (arguments : List Value) → World → (m : ℕ) → World
world_after u root arguments w m = world_left w (ending_of (stopped_run temporaries u None root arguments w m))
