-- When a unit's proofs are certified, and why they can't be.
use Rattle.std.specs.Prelude.{◌≡◌, ℕ, ◌+◌, ◌<◌, true, List, length, Option, Some, None}
use Rattle.std.specs.List.{slice_get}
use Rattle.qs_assert.specs.Order.{order_fault, IsInOrder}
use Rattle.qs_assert.specs.declared.define.Define.{Define}
use Rattle.qs_core.specs.CallGraph.{IsCycle, is_member}
use Rattle.qs_base.specs.declared.function.FnId.{FnId}
use Rattle.qs_core.specs.Trees.{CoreUnitTree}
use Rattle.qs_core.specs.UnitTrees.{unit_tree}
use Rattle.qs_core.specs.declared.unit.CoreUnit.{CoreUnit}
use Rattle.qs_triples.specs.Derivations.{ProofsTree}
use Rattle.qs_triples.specs.Entries.{has_entry, Covers}
use Rattle.qs_triples.specs.Filled.{Filled}
use Rattle.qs_triples.specs.TreeOf.{proofs_tree}
use Rattle.qs_triples.specs.declared.derivation.Proofs.{Proofs}
use Rattle.qs_triples.specs.declared.fault.DerivFault.{DerivFault}
use Rattle.qs_triples.specs.declared.resource.Resource.{Resource}
use Rattle.qs_triples.specs.declared.resource.Resource.TheVariants.{Stack}
use Rattle.qs_callgraph.specs.CallLists.{numbers}
use Rattle.qs_analyse.specs.Additions.{IsFilling}
use Rattle.qs_analyse.specs.Fillable.{entry_functions}
use Rattle.qs_analyse.specs.Laws.{DerivesOpen, HasNoCycle}
use Rattle.qs_certify.specs.Given.{GivenIs, HasTextFault}
use Rattle.qs_certify.specs.Entries.{first_fault, first_fault_for, IsFirstFault, IsEntryFaultFor, IsMet}
use Rattle.qs_certify.specs.declared.certification.Certified.{Certified}
use Rattle.qs_certify.specs.declared.fault.CertifyFault.{CertifyFault}
use Rattle.qs_certify.specs.declared.fault.CertifyFault.TheVariants.{NoMemory, Text, Cycle, Order, Entry}

-- ---- all proofs

-- These are all proofs: those that are given and what is added to them, in the order that the tool chooses. So there is one
-- list of all.
pub record AreAll (u : CoreUnitTree) (given proofs : ProofsTree) : Type 0 where
  pub no_cycle : HasNoCycle u given
  pub filled : Filled u given proofs
  pub filling : IsFilling u given proofs
  pub derives : DerivesOpen u given proofs

-- The file gives the one proofs, the other are all proofs, their definitions are in order, and they cover the unit.
pub record IsCertified (u : CoreUnitTree) (file : Option (List ℕ)) (given proofs : ProofsTree) : Type 0 where
  pub given_is : GivenIs u file given
  pub all : AreAll u given proofs
  pub in_order : IsInOrder proofs.defines
  pub covers : Covers u given proofs

-- the counts of the file's entries and of the added ones
pub record HasCounts (given : ProofsTree) (c : Certified) : Type 0 where
  pub given_are : c.given ≡ length given.functions
  pub all_are : c.given + c.added ≡ length (proofs_tree c.proofs).functions

pub record Certifies (u : CoreUnitTree) (file : Option (List ℕ)) (c : Certified) : Type 0 where
  pub given : ProofsTree
  pub certified : IsCertified u file given (proofs_tree c.proofs)
  pub counts : HasCounts given c

-- ---- why proofs can't be certified

-- the name of the first definition that mentions a name that isn't defined earlier
pub record IsMisplaced (ds : List Define) (name : List ℕ) : Type 0 where
  pub at : ℕ
  pub first : order_fault ds ≡ Some at
  pub define : Define
  pub stands : slice_get ds at ≡ Some define
  pub is : name ≡ define.name

-- the definitions aren't in order: the one of this name is the first with a name that isn't defined earlier
pub record HasNoOrder (u : CoreUnitTree) (given : ProofsTree) (name : List ℕ) : Type 0 where
  pub proofs : ProofsTree
  pub all : AreAll u given proofs
  pub misplaced : IsMisplaced proofs.defines name

-- the definitions are in order, and f is the first function of the file whose entry isn't derived
pub record IsNotDerived (u : CoreUnitTree) (given : ProofsTree) (f : ℕ) (fault : DerivFault) : Type 0 where
  pub proofs : ProofsTree
  pub all : AreAll u given proofs
  pub in_order : IsInOrder proofs.defines
  pub first : IsFirstFault u proofs (entry_functions given.functions) f fault

-- it is so of the proofs that the file gives
pub record OfGiven (u : CoreUnitTree) (file : Option (List ℕ)) (IsSo : ProofsTree → Type 0) : Type 0 where
  pub given : ProofsTree
  pub given_is : GivenIs u file given
  pub so : IsSo given

-- The cause, the first in the order of search: the text of the file, then cycles, the order of definitions, and the
-- entries of the file. Want of memory may come at each of them.
abbrev pub CannotCertify : CoreUnitTree → (file : Option (List ℕ)) → CertifyFault → Type 0
CannotCertify u file NoMemory = Unit {0}
CannotCertify u file (Text fault) = HasTextFault u file fault
CannotCertify u file (Cycle fs) = OfGiven u file (λ given. IsCycle u (has_entry given) (numbers fs.items))
CannotCertify u file (Order name) = OfGiven u file (λ given. HasNoOrder u given name)
CannotCertify u file (Entry f fault) = OfGiven u file (λ given. IsNotDerived u given f.0 fault)

-- What is told names functions of the unit, and a fault of an entry is one that is met.
abbrev pub ToldOfFunctions : CoreUnitTree → CertifyFault → Type 0
ToldOfFunctions u NoMemory = Unit {0}
ToldOfFunctions u (Text fault) = Unit {0}
ToldOfFunctions u (Cycle fs) = (f : ℕ) → is_member f (numbers fs.items) ≡ true → f < length u.functions
ToldOfFunctions u (Order name) = Unit {0}
ToldOfFunctions u (Entry f fault) = (f.0 < length u.functions) × IsMet fault

-- ---- the same of proofs that are given

abbrev pub IsTextFault : CoreUnitTree → (file : Option (List ℕ)) → CertifyFault → Type 0
IsTextFault u file NoMemory = Unit {0}
IsTextFault u file (Text fault) = HasTextFault u file fault
IsTextFault u file (Cycle fs) = ⊥
IsTextFault u file (Order name) = ⊥
IsTextFault u file (Entry f fault) = ⊥

abbrev pub IsCycleFault : CoreUnitTree → (given : ProofsTree) → CertifyFault → Type 0
IsCycleFault u given NoMemory = Unit {0}
IsCycleFault u given (Text fault) = ⊥
IsCycleFault u given (Cycle fs) = IsCycle u (has_entry given) (numbers fs.items)
IsCycleFault u given (Order name) = ⊥
IsCycleFault u given (Entry f fault) = ⊥

abbrev pub IsOrderFault : List Define → CertifyFault → Type 0
IsOrderFault ds NoMemory = Unit {0}
IsOrderFault ds (Text fault) = ⊥
IsOrderFault ds (Cycle fs) = ⊥
IsOrderFault ds (Order name) = IsMisplaced ds name
IsOrderFault ds (Entry f fault) = ⊥

abbrev pub CannotComplete : CoreUnitTree → (given : ProofsTree) → CertifyFault → Type 0
CannotComplete u given NoMemory = Unit {0}
CannotComplete u given (Text fault) = ⊥
CannotComplete u given (Cycle fs) = IsCycle u (has_entry given) (numbers fs.items)
CannotComplete u given (Order name) = HasNoOrder u given name
CannotComplete u given (Entry f fault) = IsNotDerived u given f.0 fault

-- all definitions are in order and the entries of these functions are derived, for what is bounded
pub record AreRightFor (resource : Resource) (u : CoreUnitTree) (proofs : ProofsTree) (fs : List ℕ) : Type 0 where
  pub in_order : IsInOrder proofs.defines
  pub derived : first_fault_for resource u proofs fs ≡ None

-- why they aren't
pub record HasEntryFault (resource : Resource) (u : CoreUnitTree) (proofs : ProofsTree) (fs : List ℕ) (fault : CertifyFault) : Type 0 where
  pub in_order : IsInOrder proofs.defines
  pub first : IsEntryFaultFor resource u proofs fs fault

abbrev pub AreWrongFor : Resource → CoreUnitTree → ProofsTree → List ℕ → CertifyFault → Type 0
AreWrongFor resource u proofs fs NoMemory = Unit {0}
AreWrongFor resource u proofs fs (Text fault) = ⊥
AreWrongFor resource u proofs fs (Cycle gs) = ⊥
AreWrongFor resource u proofs fs (Order name) = IsMisplaced proofs.defines name
AreWrongFor resource u proofs fs (Entry f fault) = HasEntryFault resource u proofs fs (Entry f fault)

-- on the stack
abbrev pub AreRight : CoreUnitTree → ProofsTree → List ℕ → Type 0
AreRight = AreRightFor Stack

abbrev pub AreWrong : CoreUnitTree → ProofsTree → List ℕ → CertifyFault → Type 0
AreWrong = AreWrongFor Stack

-- the same of the code's values
abbrev pub AreRightIn : Resource → CoreUnit → Proofs → List FnId → Type 0
AreRightIn resource unit proofs fs = AreRightFor resource (unit_tree unit) (proofs_tree proofs) (numbers fs)

abbrev pub AreWrongIn : Resource → CoreUnit → Proofs → List FnId → CertifyFault → Type 0
AreWrongIn resource unit proofs fs fault = AreWrongFor resource (unit_tree unit) (proofs_tree proofs) (numbers fs) fault

-- the given proofs are completed, and cover the unit
pub record IsCompleted (u : CoreUnitTree) (given : ProofsTree) (c : Certified) : Type 0 where
  pub all : AreAll u given (proofs_tree c.proofs)
  pub in_order : IsInOrder (proofs_tree c.proofs).defines
  pub covers : Covers u given (proofs_tree c.proofs)
  pub counts : HasCounts given c
