-- What is promised of the meaning of linear code.
use Rattle.std.specs.Prelude.{◌≡◌, ◌≤◌, ℕ, List, Some, slice_index_or}
use Rattle.std.specs.List.{slice_get}
use Rattle.qs_memory.specs.Values.{Value}
use Rattle.qs_events.specs.Runs.{Within}
use Rattle.qs_calls.specs.World.{World}
use Rattle.qs_tac.specs.Trees.{TacFunctionTree, TacUnitTree}
use Rattle.qs_tac.specs.Holders.{Holder}
use Rattle.qs_tac.specs.Places.{PlacesTree, Accepted, Packed, no_places}
use Rattle.qs_tac.specs.Units.{run, tac_run, placed_run}

-- more steps keep what has ended or is undefined, and extend the trace of what goes on, whatever holds the
-- values
abbrev pub LinearCodeGrows : Type 0 → Type 0
LinearCodeGrows S =
    (h : Holder S) (u : TacUnitTree) (root : ℕ) (arguments : List Value) (w : World) (m n : ℕ) → m ≤ n
    → Within (run h u root arguments w m) (run h u root arguments w n)

-- each function has places that are accepted
abbrev pub AreAccepted : TacUnitTree → List PlacesTree → Type 0
AreAccepted u ps =
    (f : ℕ) (g : TacFunctionTree) → slice_get u.functions f ≡ Some g → Accepted g (slice_index_or ps f no_places)

-- each function has places that are packed
abbrev pub ArePacked : TacUnitTree → List PlacesTree → Type 0
ArePacked u ps =
    (f : ℕ) (g : TacFunctionTree) → slice_get u.functions f ≡ Some g → Packed g (slice_index_or ps f no_places)

-- a unit does the same with its values in accepted places, within the same steps
abbrev pub PlacesKeepRuns : Type 0
PlacesKeepRuns =
    (u : TacUnitTree) (ps : List PlacesTree) → AreAccepted u ps
    → (root : ℕ) (arguments : List Value) (w : World) (m : ℕ)
    → placed_run u ps root arguments w m ≡ tac_run u root arguments w m
