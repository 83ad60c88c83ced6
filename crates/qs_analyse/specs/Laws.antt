-- What is promised of what is added.
use Rattle.std.specs.Prelude.{◌≡◌, ◌≢◌, ℕ, ◌<◌, true, false, List, [], length, Some}
use Rattle.std.specs.List.{slice_get}
use Rattle.qs_memory.specs.Values.{Value}
use Rattle.qs_events.specs.Weights.{Costs}
use Rattle.qs_assert.specs.Order.{IsInOrder}
use Rattle.qs_assert.specs.Values.{finite, plus}
use Rattle.qs_core.specs.CallGraph.{IsOpen, IsCycle}
use Rattle.qs_core.specs.Fits.{unit_fits}
use Rattle.qs_core.specs.Trees.{CoreFunctionTree, CoreUnitTree}
use Rattle.qs_triples.specs.Derivations.{EntryTree, ProofsTree, entry_of}
use Rattle.qs_triples.specs.Entries.{IsDerived, IsPathEntry, Covers, has_entry, function_fault}
use Rattle.qs_triples.specs.Filled.{Filled}
use Rattle.qs_triples.specs.Rules.{no_spec}
use Rattle.qs_triples.specs.Valuations.{value_at_entry}
use Rattle.qs_analyse.specs.Additions.{IsFilling}
use Rattle.qs_analyse.specs.Fillable.{IsFillable}
use Rattle.qs_analyse.specs.Paths.{IsLongestPath}

-- an entry that is added is one along the paths of calls
abbrev pub FilledEntriesAreValid : Type 0
FilledEntriesAreValid =
    (u : CoreUnitTree) (given proofs : ProofsTree) (f : ℕ) (e : EntryTree) → unit_fits u ≡ true
    → Filled u given proofs → has_entry given f ≡ false → entry_of proofs f ≡ Some e → IsPathEntry u proofs e

-- the entries that are given are derived in what they are filled to
abbrev pub GivenAreDerived : CoreUnitTree → (given proofs : ProofsTree) → Type 0
GivenAreDerived u given proofs =
    (f : ℕ) (e : EntryTree) → f < length u.functions → has_entry given f ≡ true → entry_of proofs f ≡ Some e
    → IsDerived u proofs e

-- then the whole covers the unit
abbrev pub FilledProofsCover : Type 0
FilledProofsCover =
    (u : CoreUnitTree) (given proofs : ProofsTree) → unit_fits u ≡ true → IsFillable u given
    → Filled u given proofs → GivenAreDerived u given proofs → Covers u given proofs

-- n is the cost of a function and the value of its precondition
abbrev pub IsBound : ProofsTree → Costs → ℕ → CoreFunctionTree → List Value → EntryTree → ℕ → Type 0
IsBound proofs cost f function arguments e n =
    plus (finite (cost f)) (value_at_entry cost proofs.defines function arguments e.spec.pre) ≡ finite n

pub record HasLongestPath (u : CoreUnitTree) (proofs : ProofsTree) (cost : Costs) (f : ℕ) (function : CoreFunctionTree) (arguments : List Value) (e : EntryTree) : Type 0 where
  pub length : ℕ
  pub bound : IsBound proofs cost f function arguments e length
  pub longest : IsLongestPath u cost f length

-- For all costs the bound of an open function is the longest path. Without proofs that are given every function is open.
abbrev pub OpenNamesAreLongestPaths : Type 0
OpenNamesAreLongestPaths =
    (u : CoreUnitTree) (given proofs : ProofsTree) (cost : Costs) (f : ℕ) (function : CoreFunctionTree)
    (arguments : List Value) (e : EntryTree) → unit_fits u ≡ true → Filled u given proofs
    → IsOpen u (has_entry given) f → slice_get u.functions f ≡ Some function → entry_of proofs f ≡ Some e
    → HasLongestPath u proofs cost f function arguments e

-- Where the definitions are in order, the entries of open functions are derived; they are where none is given.
pub record DerivesOpen (u : CoreUnitTree) (given proofs : ProofsTree) : Type 0 where
  pub in_order : given.defines ≡ [] → IsInOrder proofs.defines
  pub derived :
      (f : ℕ) (e : EntryTree) → IsInOrder proofs.defines → IsOpen u (has_entry given) f
      → entry_of proofs f ≡ Some e → IsDerived u proofs e

-- no functions without an entry call each other in turn
abbrev pub HasNoCycle : CoreUnitTree → (given : ProofsTree) → Type 0
HasNoCycle u given = (fs : List ℕ) → IsCycle u (has_entry given) fs → ⊥

-- proofs are filled in one way
abbrev pub OneFilling : Type 0
OneFilling =
    (u : CoreUnitTree) (given proofs others : ProofsTree) → IsFilling u given proofs → IsFilling u given others
    → proofs ≡ others

-- in what is filled each call meets a specification
abbrev pub CallsMeetSpecs : Type 0
CallsMeetSpecs =
    (u : CoreUnitTree) (given proofs : ProofsTree) (f g : ℕ) (path : List ℕ) → unit_fits u ≡ true
    → Filled u given proofs → function_fault u proofs f ≢ Some (no_spec path g)
