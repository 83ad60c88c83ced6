-- What is promised of bounds, of faults, and of what can be certified.
use Rattle.std.specs.Prelude.{◌≡◌, ◌≢◌, ◌⊎◌, ℕ, ◌-◌, ◌^◌, ◌<◌, ◌≤◌, true, ℤ, List, length, All, Option, Some, None}
use Rattle.qs_events.specs.Weights.{Costs, run_weight}
use Rattle.qs_assert.specs.Order.{IsInOrder}
use Rattle.qs_assert.specs.Values.{finite}
use Rattle.qs_assert.specs.declared.define.Amount.TheVariants.{Finite}
use Rattle.qs_core.specs.CallGraph.{IsCycle, IsWithoutRecursion}
use Rattle.qs_core.specs.Fits.{unit_fits}
use Rattle.qs_core.specs.Trees.{CoreUnitTree}
use Rattle.qs_core.specs.Units.{main_run}
use Rattle.qs_core.specs.Nesting.{unit_nesting}
use Rattle.qs_sexpr.specs.Reading.{depth_limit}
use Rattle.qs_prooftext_meaning.specs.Reading.{Fault}
use Rattle.qs_prooftext_meaning.specs.Writable.{IsWritable}
use Rattle.qs_prooftext_meaning.specs.declared.fault.TextFault.{TextFault}
use Rattle.qs_triples.specs.Derivations.{ProofsTree}
use Rattle.qs_triples.specs.Entries.{has_entry, Covers, HasDerivedEntry}
use Rattle.qs_triples.specs.Filled.{Filled}
use Rattle.qs_triples.specs.declared.fault.DerivFault.{DerivFault}
use Rattle.qs_analyse.specs.Fillable.{entry_functions}
use Rattle.qs_analyse.specs.Laws.{GivenAreDerived, HasNoCycle}
use Rattle.qs_analyse.specs.Paths.{IsLongestPath}
use Rattle.qs_certify.specs.Bound.{function_bound, function_need, main_bound, main_need, costs_of, values_of, AreArguments}
use Rattle.qs_certify.specs.Entries.{first_fault, IsEntryFault}
use Rattle.qs_certify.specs.Given.{GivenIs}
use Rattle.qs_certify.specs.Certification.{AreAll, IsCertified, HasNoOrder, IsNotDerived, CannotCertify, ToldOfFunctions, IsCycleFault}
use Rattle.qs_certify.specs.declared.fault.CertifyFault.{CertifyFault}
use Rattle.qs_certify.specs.declared.fault.CertifyFault.TheVariants.{NoMemory, Text, Cycle, Order, Entry}

-- ---- bounds

-- on each input and within each bound of steps, the run of main with these arguments weighs at most so much
abbrev pub MainWeighsAtMost : CoreUnitTree → Costs → (arguments : List ℤ) → (bound : ℕ) → Type 0
MainWeighsAtMost u costs arguments bound =
    (input : List ℕ) (n : ℕ) → All (λ byte. byte < 256) input
    → run_weight costs (main_run u (values_of arguments) input n) ≤ bound

-- Where the proofs cover the unit, what main needs bounds its runs, if it is a number.
abbrev pub MainBoundsRuns : Type 0
MainBoundsRuns =
    (u : CoreUnitTree) (given proofs : ProofsTree) (costs : List ℕ) (arguments : List ℤ) (bound : ℕ)
    → unit_fits u ≡ true → Covers u given proofs → AreArguments u arguments
    → main_need u proofs costs arguments ≡ finite bound
    → MainWeighsAtMost u (costs_of costs) arguments bound

-- A bound that is a number is what the function needs.
abbrev pub BoundsAreNeeds : Type 0
BoundsAreNeeds =
    (f : ℕ) (proofs : ProofsTree) (costs : List ℕ) (arguments : List ℤ) (bound : ℕ)
    → function_bound f proofs costs arguments ≡ Finite bound → function_need f proofs costs arguments ≡ finite bound

-- main's bound at these arguments is a number, the longest path of calls from main
pub record HasLongestBound (u : CoreUnitTree) (proofs : ProofsTree) (costs : List ℕ) (arguments : List ℤ) : Type 0 where
  pub bound : ℕ
  pub is : main_bound u proofs costs arguments ≡ Finite bound
  pub longest : IsLongestPath u (costs_of costs) u.main bound

-- Without a file main's bound is the longest path from main, for all costs of 32 bits. So it is never infinite or too wide.
abbrev pub BoundsAreLongestPaths : Type 0
BoundsAreLongestPaths =
    (u : CoreUnitTree) (given proofs : ProofsTree) (costs : List ℕ) (arguments : List ℤ) → unit_fits u ≡ true
    → length u.functions < 2 ^ 63 → All (λ c. c < 2 ^ 32) costs → IsCertified u None given proofs
    → HasLongestBound u proofs costs arguments

-- ---- faults

-- nothing is certified, and the fault is this one or want of memory
pub record IsRefusedAs (u : CoreUnitTree) (file : Option (List ℕ)) (IsIt : CertifyFault → Type 0) : Type 0 where
  pub not_certified : (given proofs : ProofsTree) → IsCertified u file given proofs → ⊥
  pub only : (fault : CertifyFault) → CannotCertify u file fault → (fault ≡ NoMemory) ⊎ IsIt fault

-- a file whose text has a fault is refused with the first one
abbrev pub TextFaultsAreTold : Type 0
TextFaultsAreTold =
    (u : CoreUnitTree) (text : List ℕ) (fault : TextFault) → Fault u text fault
    → IsRefusedAs u (Some text) (λ told. told ≡ Text fault)

-- where functions without an entry call each other in turn, such a cycle is told
abbrev pub CyclesAreTold : Type 0
CyclesAreTold =
    (u : CoreUnitTree) (file : Option (List ℕ)) (given : ProofsTree) (fs : List ℕ)
    → GivenIs u file given → IsCycle u (has_entry given) fs → IsRefusedAs u file (IsCycleFault u given)

-- where the definitions have no order, the name of the first that is out of it is told
abbrev pub OrderIsTold : Type 0
OrderIsTold =
    (u : CoreUnitTree) (file : Option (List ℕ)) (given : ProofsTree) (name : List ℕ)
    → GivenIs u file given → HasNoOrder u given name → IsRefusedAs u file (λ told. told ≡ Order name)

-- the entry of this function is told
abbrev pub IsEntryOf : (function : ℕ) → CertifyFault → Type 0
IsEntryOf f NoMemory = ⊥
IsEntryOf f (Text fault) = ⊥
IsEntryOf f (Cycle fs) = ⊥
IsEntryOf f (Order name) = ⊥
IsEntryOf f (Entry g fault) = g.0 ≡ f

-- where an entry of the file isn't derived, the first such is told
abbrev pub EntriesAreTold : Type 0
EntriesAreTold =
    (u : CoreUnitTree) (file : Option (List ℕ)) (given : ProofsTree) (f : ℕ) (fault : DerivFault)
    → GivenIs u file given → IsNotDerived u given f fault → IsRefusedAs u file (IsEntryOf f)

-- and beside its function the first fault of its entry
abbrev pub EntryFaultsAreTold : Type 0
EntryFaultsAreTold =
    (u : CoreUnitTree) (file : Option (List ℕ)) (given proofs : ProofsTree) → GivenIs u file given → AreAll u given proofs
    → IsInOrder proofs.defines → first_fault u proofs (entry_functions given.functions) ≢ None
    → IsRefusedAs u file (IsEntryFault u proofs (entry_functions given.functions))

-- what is told names functions of the unit, and no fault that is never met
abbrev pub FaultsAreOfFunctions : Type 0
FaultsAreOfFunctions =
    (u : CoreUnitTree) (file : Option (List ℕ)) (fault : CertifyFault) → unit_fits u ≡ true
    → CannotCertify u file fault → ToldOfFunctions u fault

-- ---- what can be certified

-- No cycle is left, and in all proofs the definitions are in order and the given entries are derived.
pub record AreRightProofs (u : CoreUnitTree) (given : ProofsTree) : Type 0 where
  pub no_cycle : HasNoCycle u given
  pub in_order : (proofs : ProofsTree) → AreAll u given proofs → IsInOrder proofs.defines
  pub derived : (proofs : ProofsTree) → AreAll u given proofs → GivenAreDerived u given proofs

-- One filling of the given proofs is enough, in whatever order it adds: where in it the definitions are in order and the
-- given entries are derived, they are so in all.
abbrev pub OneFillingIsEnough : Type 0
OneFillingIsEnough =
    (u : CoreUnitTree) (given proofs : ProofsTree) → unit_fits u ≡ true → HasNoCycle u given → Filled u given proofs
    → IsInOrder proofs.defines → GivenAreDerived u given proofs → AreRightProofs u given

-- nothing but want of memory stands in the way of right proofs
abbrev pub RightProofsAreCertified : Type 0
RightProofsAreCertified =
    (u : CoreUnitTree) (file : Option (List ℕ)) (given : ProofsTree) (fault : CertifyFault)
    → GivenIs u file given → AreRightProofs u given → CannotCertify u file fault → fault ≡ NoMemory

-- nor of a unit without recursion and without a file
abbrev pub UnitsWithoutRecursionAreCertified : Type 0
UnitsWithoutRecursionAreCertified =
    (u : CoreUnitTree) (fault : CertifyFault) → IsWithoutRecursion u → CannotCertify u None fault
    → fault ≡ NoMemory

-- what is certified is right
abbrev pub CertifiedIsRight : Type 0
CertifiedIsRight =
    (u : CoreUnitTree) (file : Option (List ℕ)) (given proofs : ProofsTree) → IsCertified u file given proofs
    → AreRightProofs u given

-- a file gives one list of proofs, and these are completed in one way
abbrev pub OneCertified : Type 0
OneCertified =
    (u : CoreUnitTree) (file : Option (List ℕ)) (given proofs other others : ProofsTree)
    → IsCertified u file given proofs → IsCertified u file other others → (given ≡ other) × (proofs ≡ others)

-- without a file the entry of each function is derived
abbrev pub AllAreDerived : Type 0
AllAreDerived =
    (u : CoreUnitTree) (given proofs : ProofsTree) (f : ℕ) → IsCertified u None given proofs
    → f < length u.functions → HasDerivedEntry u proofs f

-- ---- what is written

-- Lists nest at most `depth_limit` deep: three of them hold the statements of a function, and a call is written as five
-- more.
abbrev pub nesting_limit : ℕ
nesting_limit = depth_limit - 8

-- Without a file what is certified can be written, where the unit has no more functions than a number of an atom can
-- tell apart, and its statements nest little: as those of the core of each unit within limits do, by far.
abbrev pub AddedIsWritable : Type 0
AddedIsWritable =
    (u : CoreUnitTree) (given proofs : ProofsTree) → unit_fits u ≡ true → length u.functions < 2 ^ 63
    → unit_nesting u ≤ nesting_limit → IsCertified u None given proofs → IsWritable u proofs

-- And it is right as the proofs of a file: no functions are left without an entry that call each other in turn, the
-- definitions are in order, and the entries are derived.
abbrev pub AddedIsRight : Type 0
AddedIsRight =
    (u : CoreUnitTree) (given proofs : ProofsTree) → unit_fits u ≡ true → IsCertified u None given proofs
    → AreRightProofs u proofs
