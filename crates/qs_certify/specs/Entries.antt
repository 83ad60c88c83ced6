-- The first entry of a file that isn't derived.
use Rattle.std.specs.Prelude.{◌≡◌, ℕ, List, [], ◌∷◌, Option, Some, None, Result, Ok, Err}
use Rattle.qs_base.specs.declared.function.FnId.{FnId}
use Rattle.qs_core.specs.Trees.{CoreUnitTree}
use Rattle.qs_core.specs.UnitTrees.{unit_tree}
use Rattle.qs_core.specs.declared.unit.CoreUnit.{CoreUnit}
use Rattle.qs_triples.specs.Derivations.{ProofsTree}
use Rattle.qs_triples.specs.Entries.{function_fault_for}
use Rattle.qs_triples.specs.Rules as rules
use Rattle.qs_triples.specs.Told.{IsDue}
use Rattle.qs_triples.specs.TreeOf.{proofs_tree}
use Rattle.qs_triples.specs.declared.derivation.Proofs.{Proofs}
use Rattle.qs_triples.specs.declared.fault.DerivFault.{DerivFault}
use Rattle.qs_triples.specs.declared.fault.DerivFault.TheVariants as faults
use Rattle.qs_triples.specs.declared.resource.Resource.{Resource}
use Rattle.qs_triples.specs.declared.resource.Resource.TheVariants.{Stack}
use Rattle.qs_callgraph.specs.CallLists.{numbers}
use Rattle.qs_certify.specs.declared.fault.CertifyFault.{CertifyFault}
use Rattle.qs_certify.specs.declared.fault.CertifyFault.TheVariants.{NoMemory, Text, Cycle, Order, Entry}

-- a function, and the first fault of its entry
pub record EntryFault : Type 0 where
  pub function : ℕ
  pub fault : rules.DerivFault

abbrev pub fault_or_next : (function : ℕ) → Option rules.DerivFault → (next : Option EntryFault) → Option EntryFault
fault_or_next f None next = next
fault_or_next f (Some fault) next = Some (record { function = f; fault = fault })

-- of these functions the first whose entry isn't derived, for what is bounded
abbrev pub first_fault_for : Resource → CoreUnitTree → ProofsTree → List ℕ → Option EntryFault
first_fault_for resource u proofs [] = None
first_fault_for resource u proofs (f ∷ fs) =
    fault_or_next f (function_fault_for resource u proofs f) (first_fault_for resource u proofs fs)

-- on the stack
abbrev pub first_fault : CoreUnitTree → ProofsTree → List ℕ → Option EntryFault
first_fault = first_fault_for Stack

-- ---- what the code tells

-- want of memory is no fault of an entry
abbrev pub IsFault : DerivFault → Type 0
IsFault faults.NoMemory = ⊥
IsFault (faults.Shape path) = Unit {0}
IsFault (faults.Mentions place g x) = Unit {0}
IsFault (faults.Cert path fault) = Unit {0}
IsFault (faults.NoSpec path g) = Unit {0}
IsFault (faults.Entry fault) = Unit {0}
IsFault (faults.BadOrder d) = Unit {0}

-- A fault of an entry that is met: each function has a specification, and the order is tested before the entries.
abbrev pub IsMet : DerivFault → Type 0
IsMet faults.NoMemory = Unit {0}
IsMet (faults.Shape path) = Unit {0}
IsMet (faults.Mentions place g x) = Unit {0}
IsMet (faults.Cert path fault) = Unit {0}
IsMet (faults.NoSpec path g) = ⊥
IsMet (faults.Entry fault) = Unit {0}
IsMet (faults.BadOrder d) = ⊥

-- the first of these functions whose entry isn't derived is f, and this fault of it is told
pub record IsFirstFaultFor (resource : Resource) (u : CoreUnitTree) (proofs : ProofsTree) (fs : List ℕ) (f : ℕ) (told : DerivFault) : Type 0 where
  pub fault : rules.DerivFault
  pub first : first_fault_for resource u proofs fs ≡ Some (record { function = f; fault = fault })
  pub is_fault : IsFault told
  pub is_told : IsDue told (Some fault)

abbrev pub IsFirstFault : CoreUnitTree → ProofsTree → List ℕ → (f : ℕ) → DerivFault → Type 0
IsFirstFault = IsFirstFaultFor Stack

-- want of memory is told apart from the faults of an entry
abbrev pub entry_told : FnId → DerivFault → CertifyFault
entry_told f faults.NoMemory = NoMemory
entry_told f (faults.Shape path) = Entry f (faults.Shape path)
entry_told f (faults.Mentions place g x) = Entry f (faults.Mentions place g x)
entry_told f (faults.Cert path fault) = Entry f (faults.Cert path fault)
entry_told f (faults.NoSpec path g) = Entry f (faults.NoSpec path g)
entry_told f (faults.Entry fault) = Entry f (faults.Entry fault)
entry_told f (faults.BadOrder d) = Entry f (faults.BadOrder d)

abbrev pub IsEntryFaultFor : Resource → CoreUnitTree → ProofsTree → List ℕ → CertifyFault → Type 0
IsEntryFaultFor resource u proofs fs NoMemory = Unit {0}
IsEntryFaultFor resource u proofs fs (Text fault) = ⊥
IsEntryFaultFor resource u proofs fs (Cycle gs) = ⊥
IsEntryFaultFor resource u proofs fs (Order name) = ⊥
IsEntryFaultFor resource u proofs fs (Entry f fault) = IsFirstFaultFor resource u proofs fs f.0 fault

abbrev pub IsEntryFault : CoreUnitTree → ProofsTree → List ℕ → CertifyFault → Type 0
IsEntryFault = IsEntryFaultFor Stack

-- the entries of these functions are derived, or the first fault is told
abbrev pub TellsEntries : Resource → CoreUnitTree → ProofsTree → List ℕ → Result (Unit {0}) CertifyFault → Type 0
TellsEntries resource u proofs fs (Ok done) = first_fault_for resource u proofs fs ≡ None
TellsEntries resource u proofs fs (Err fault) = IsEntryFaultFor resource u proofs fs fault

-- the same of the code's values
abbrev pub TellsEntriesIn : Resource → CoreUnit → Proofs → List FnId → Result (Unit {0}) CertifyFault → Type 0
TellsEntriesIn resource unit proofs fs result = TellsEntries resource (unit_tree unit) (proofs_tree proofs) (numbers fs) result
