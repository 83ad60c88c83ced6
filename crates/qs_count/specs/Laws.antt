-- What is promised where calls are counted.
use Rattle.std.specs.Prelude.{◌≡◌, ℕ, ◌<◌, ◌≤◌, ℤ, true, List, length, All, Some}
use Rattle.std.specs.List.{slice_get}
use Rattle.qs_memory.specs.Values.{Value}
use Rattle.qs_events.specs.Runs.{events_of}
use Rattle.qs_events.specs.Weights.{Costs, calls_in, run_count}
use Rattle.qs_calls.specs.World.{World}
use Rattle.qs_calls.specs.Starts.{MayStart}
use Rattle.qs_assert.specs.declared.define.Amount.TheVariants.{Finite}
use Rattle.qs_assert.specs.Values.{Extended, finite, plus}
use Rattle.qs_entail.specs.Meaning.{AtLeast}
use Rattle.qs_core.specs.Trees.{CoreFunctionTree, CoreUnitTree}
use Rattle.qs_core.specs.Interfaces.{interface_of}
use Rattle.qs_core.specs.Fits.{unit_fits}
use Rattle.qs_core.specs.Units.{core_run, main_run}
use Rattle.qs_triples.specs.Derivations.{EntryTree, ProofsTree, entry_of}
use Rattle.qs_triples.specs.Entries.{AreClosed}
use Rattle.qs_triples.specs.Valuations.{value_at_entry}
use Rattle.qs_count.specs.Counted.{AreCounted}
use Rattle.qs_certify.specs.Bound.{values_of, AreArguments}
use Rattle.qs_count.specs.Covered.{IsCovered}
use Rattle.qs_count.specs.MainCount.{main_count}

-- what a call of a function costs, and the value of its precondition at these arguments
abbrev pub cost_of_call : Costs → ProofsTree → (function : ℕ) → CoreFunctionTree → EntryTree → (arguments : List Value) → Extended
cost_of_call cost proofs f function e arguments =
    plus (finite (cost f)) (value_at_entry cost proofs.defines function arguments e.spec.pre)

-- The definitions mention no variables, as those of a file do, and the entries are derived for calls.
pub record CountsCalls (u : CoreUnitTree) (proofs : ProofsTree) : Type 0 where
  pub fits : unit_fits u ≡ true
  pub closed : AreClosed proofs.defines
  pub counted : AreCounted u proofs

-- For every call metric, what the calls of the runs of a root from these arguments, memory and input cost together is, within
-- each bound, at most what a call of the root costs with its precondition; the call of the root itself is among them.
abbrev pub BoundsCalls :
    CoreUnitTree → ProofsTree → (root : ℕ) → CoreFunctionTree → EntryTree → (arguments : List Value) → World → Type 0
BoundsCalls u proofs root f e arguments w =
    (cost : Costs) (n : ℕ)
    → AtLeast (cost_of_call cost proofs root f e arguments) (finite (run_count cost (core_run u root arguments w n)))

-- Of every root that has an entry, from all its arguments, every memory and every input: also of runs that are undefined or
-- short.
abbrev pub EntriesBoundCalls : Type 0
EntriesBoundCalls =
    (u : CoreUnitTree) (proofs : ProofsTree) (root : ℕ) (f : CoreFunctionTree) (e : EntryTree) (arguments : List Value) (w : World)
    → CountsCalls u proofs → slice_get u.functions root ≡ Some f → entry_of proofs root ≡ Some e
    → MayStart (interface_of u) root arguments w
    → BoundsCalls u proofs root f e arguments w

-- Where each function of the unit costs 1, there are at most so many calls in a run.
abbrev pub CountsBoundCalls : Type 0
CountsBoundCalls =
    (u : CoreUnitTree) (proofs : ProofsTree) (root : ℕ) (f : CoreFunctionTree) (e : EntryTree) (arguments : List Value) (w : World)
    (cost : Costs) (n : ℕ)
    → CountsCalls u proofs → slice_get u.functions root ≡ Some f → entry_of proofs root ≡ Some e
    → MayStart (interface_of u) root arguments w → ((g : ℕ) → g < length u.functions → cost g ≡ 1)
    → AtLeast (cost_of_call cost proofs root f e arguments) (finite (calls_in (events_of (core_run u root arguments w n))))

-- main's entry bounds the calls of its runs
pub record HasCountedMain (u : CoreUnitTree) (proofs : ProofsTree) (arguments : List Value) (w : World) : Type 0 where
  pub function : CoreFunctionTree
  pub entry_tree : EntryTree
  pub is : slice_get u.functions u.main ≡ Some function
  pub stands : entry_of proofs u.main ≡ Some entry_tree
  pub bounds : BoundsCalls u proofs u.main function entry_tree arguments w

-- Where no function is missing, main has an entry, which bounds its calls.
abbrev pub MainIsCounted : Type 0
MainIsCounted =
    (u : CoreUnitTree) (proofs : ProofsTree) (arguments : List Value) (w : World)
    → CountsCalls u proofs → IsCovered u proofs → MayStart (interface_of u) u.main arguments w
    → HasCountedMain u proofs arguments w

-- Where no function is missing, main's count at these arguments, if it is a number, is at least the number of calls of its run on
-- each input, within each bound.
abbrev pub MainCountBoundsCalls : Type 0
MainCountBoundsCalls =
    (u : CoreUnitTree) (proofs : ProofsTree) (arguments : List ℤ) (count : ℕ) (input : List ℕ) (n : ℕ)
    → CountsCalls u proofs → IsCovered u proofs → AreArguments u arguments → All (λ byte. byte < 256) input
    → main_count u proofs arguments ≡ Finite count
    → calls_in (events_of (main_run u (values_of arguments) input n)) ≤ count
