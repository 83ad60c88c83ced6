-- What is promised of derivations.
use Rattle.std.specs.Prelude.{◌≡◌, ℕ, true, List, Some}
use Rattle.std.specs.List.{slice_get}
use Rattle.qs_memory.specs.Values.{Value}
use Rattle.qs_events.specs.Weights.{Costs, run_weight}
use Rattle.qs_calls.specs.World.{World}
use Rattle.qs_calls.specs.Starts.{MayStart}
use Rattle.qs_assert.specs.Values.{finite, plus}
use Rattle.qs_entail.specs.Meaning.{AtLeast}
use Rattle.qs_core.specs.Trees.{CoreFunctionTree, CoreUnitTree}
use Rattle.qs_core.specs.Interfaces.{interface_of}
use Rattle.qs_core.specs.Fits.{unit_fits}
use Rattle.qs_core.specs.Units.{core_run}
use Rattle.qs_triples.specs.Derivations.{EntryTree, ProofsTree, entry_of}
use Rattle.qs_triples.specs.Valuations.{value_at_entry}
use Rattle.qs_triples.specs.Entries.{Covers}

-- For every stack metric, the runs of a root from these arguments, memory and input weigh, within each bound, at most the
-- root's cost and the value of its precondition at the arguments.
abbrev pub BoundsRuns :
    CoreUnitTree → ProofsTree → (root : ℕ) → CoreFunctionTree → EntryTree → (arguments : List Value) → World → Type 0
BoundsRuns u proofs root f e arguments w =
    (cost : Costs) (n : ℕ)
    → AtLeast (plus (finite (cost root)) (value_at_entry cost proofs.defines f arguments e.spec.pre))
    (finite (run_weight cost (core_run u root arguments w n)))

-- Where the entries cover the unit, they bound the runs of every root, from all its arguments, every memory and every
-- input: also those that are undefined or short.
abbrev pub DerivationsBoundRuns : Type 0
DerivationsBoundRuns =
    (u : CoreUnitTree) (given proofs : ProofsTree) (root : ℕ) (f : CoreFunctionTree) (e : EntryTree)
    (arguments : List Value) (w : World)
    → unit_fits u ≡ true → Covers u given proofs
    → slice_get u.functions root ≡ Some f → entry_of proofs root ≡ Some e
    → MayStart (interface_of u) root arguments w
    → BoundsRuns u proofs root f e arguments w
