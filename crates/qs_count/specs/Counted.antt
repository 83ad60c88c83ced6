-- Entries that are derived where calls are counted.
use Rattle.std.specs.Prelude.{◌≡◌, ℕ, Option, Some}
use Rattle.qs_assert.specs.Order.{IsInOrder}
use Rattle.qs_core.specs.Trees.{CoreUnitTree}
use Rattle.qs_core.specs.UnitTrees.{unit_tree}
use Rattle.qs_core.specs.declared.unit.CoreUnit.{CoreUnit}
use Rattle.qs_triples.specs.Checking.{first_entry_fault_for, FirstEntryIsDerivedFor}
use Rattle.qs_triples.specs.Derivations.{EntryTree, ProofsTree, entry_of}
use Rattle.qs_triples.specs.Entries.{IsDerivedFor}
use Rattle.qs_triples.specs.Rules as rules
use Rattle.qs_triples.specs.TreeOf.{proofs_tree}
use Rattle.qs_triples.specs.declared.derivation.Proofs.{Proofs}
use Rattle.qs_triples.specs.declared.resource.Resource.TheVariants.{Calls}
use Rattle.qs_analyse.specs.Fillable.{entry_functions}
use Rattle.qs_certify.specs.Certification.{AreWrongFor}
use Rattle.qs_certify.specs.declared.fault.CertifyFault.{CertifyFault}

-- a call costs what its function costs, and its return gives nothing back
abbrev pub IsCounted : CoreUnitTree → ProofsTree → EntryTree → Type 0
IsCounted u proofs e = IsDerivedFor Calls u proofs e

-- the entry of each function that has one
abbrev pub AreCounted : CoreUnitTree → ProofsTree → Type 0
AreCounted u proofs = (f : ℕ) (e : EntryTree) → entry_of proofs f ≡ Some e → IsCounted u proofs e

-- and the definitions are in order
pub record AreAllCounted (u : CoreUnitTree) (proofs : ProofsTree) : Type 0 where
  pub in_order : IsInOrder proofs.defines
  pub counted : AreCounted u proofs

-- why this isn't so: the first definition that is out of order, or the first fault of the first entry that isn't derived
abbrev pub AreNotCounted : CoreUnitTree → ProofsTree → CertifyFault → Type 0
AreNotCounted u proofs fault = AreWrongFor Calls u proofs (entry_functions proofs.functions) fault

-- ---- of the code's values

abbrev pub first_count_fault : CoreUnit → (function : ℕ) → Proofs → Option rules.DerivFault
first_count_fault unit f proofs = first_entry_fault_for Calls unit f proofs

abbrev pub AreAllCountedIn : CoreUnit → Proofs → Type 0
AreAllCountedIn unit proofs = AreAllCounted (unit_tree unit) (proofs_tree proofs)

abbrev pub AreNotCountedIn : CoreUnit → Proofs → CertifyFault → Type 0
AreNotCountedIn unit proofs fault = AreNotCounted (unit_tree unit) (proofs_tree proofs) fault

abbrev pub FirstEntryIsCounted : CoreUnit → (function : ℕ) → Proofs → Type 0
FirstEntryIsCounted unit f proofs = FirstEntryIsDerivedFor Calls unit f proofs
