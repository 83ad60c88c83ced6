-- A unit with proofs that cover it, step by step: its core, the proofs that a file gives, and all proofs.
use Rattle.std.specs.Prelude.{◌≡◌, ℕ, List, map, Option, Some, None, Result, Ok, Err, Vec}
use Rattle.std.specs.declared.alloc.Global.{Global}
use Rattle.qs_syntax.specs.Trees.{UnitTree}
use Rattle.qs_core.specs.CallGraph.{IsCycle}
use Rattle.qs_core.specs.FunctionNames.{function_name}
use Rattle.qs_core.specs.Trees.{CoreUnitTree}
use Rattle.qs_assert.specs.Order.{IsInOrder}
use Rattle.qs_triples.specs.Derivations.{ProofsTree}
use Rattle.qs_triples.specs.Entries.{has_entry, Covers}
use Rattle.qs_triples.specs.declared.resource.Resource.TheVariants.{Stack}
use Rattle.qs_analyse.specs.Laws.{HasNoCycle}
use Rattle.qs_certify.specs.Certification.{AreAll, HasNoOrder}
use Rattle.qs_driver_steps.specs.Reading.{deciding}
use Rattle.qs_driver_steps.specs.Runs.{Halted, Passed}
use Rattle.qs_driver_steps.specs.Steps.{Step, Steps, gives, first, then}
use Rattle.qs_ports.specs.StoreView.{StoreView}
use Rattle.qs_driver_session.specs.Limits.{proof_limit}
use Rattle.qs_driver_session.specs.Origin.{origin}
use Rattle.qs_driver_session.specs.Shared.{reading_file}
use Rattle.qs_driver_session.specs.Statuses.{tool}
use Rattle.qs_driver_session.specs.Told.{place_of}
use Rattle.qs_driver_session.specs.declared.status.FileKind.TheVariants as kinds
use Rattle.qs_driver_session.specs.declared.status.ProofFault.TheVariants.{Cycle}
use Rattle.qs_driver_session.specs.declared.status.Status.{Status}
use Rattle.qs_driver_session.specs.declared.status.Status.TheVariants.{Proof}
use Rattle.qs_driver_proofs.specs.Steps.{coring, reading_proofs, order_status, EntryRefusal, entry_status, LacksDerivation}
use Rattle.qs_driver.specs.Certified.{CertifyWords, CertifiedSource, Certifies}
use Rattle.qs_driver.specs.declared.certified.CertifiedUnit.{CertifiedUnit}

-- ---- the core of a unit

-- ---- the proofs that a file gives

-- the file that is named; none is no file
abbrev pub as_file : (text : List ℕ) → Steps tool (Option (List ℕ))
as_file text = gives (Some text)

abbrev pub proof_file : (proof : Option (List ℕ)) → Steps tool (Option (List ℕ))
proof_file None = gives None
proof_file (Some name) = first (reading_file kinds.Derivation proof_limit name) as_file

-- ---- all proofs

-- these are the names of functions without an entry that call each other in turn
pub record IsCycleOf (core : CoreUnitTree) (given : ProofsTree) (names : List (List ℕ))
    : Type 0 where
  pub functions : List ℕ
  pub named : names ≡ map (function_name core) functions
  pub cycle : IsCycle core (has_entry given) functions

abbrev pub cycle_status : Vec (List ℕ) Global → Status
cycle_status names = Proof (Cycle names)

-- no functions without an entry call each other in turn
abbrev pub leaving_no_cycle : CoreUnitTree → (given : ProofsTree) → Step tool
leaving_no_cycle core given =
    deciding 10 (λ (u : Unit {0}). HasNoCycle core given)
    (λ (names : Vec (List ℕ) Global). IsCycleOf core given names.items) cycle_status

-- all proofs, with the definitions in order
pub record AreOrdered (core : CoreUnitTree) (given proofs : ProofsTree) : Type 0 where
  pub all : AreAll core given proofs
  pub in_order : IsInOrder proofs.defines

abbrev pub filling : CoreUnitTree → (given : ProofsTree) → Step tool
filling core given =
    deciding 11 (λ (proofs : ProofsTree). AreOrdered core given proofs)
    (λ (name : List ℕ). HasNoOrder core given name) order_status

-- the proofs cover the unit: of the file each entry is derived
pub record AreCovering (core : CoreUnitTree) (given proofs : ProofsTree) : Type 0 where
  pub all : AreAll core given proofs
  pub covers : Covers core given proofs

abbrev pub covering : CoreUnitTree → (given proofs : ProofsTree) → Step tool
covering core given proofs =
    deciding 12 (λ (u : Unit {0}). AreCovering core given proofs)
    (λ (f : EntryRefusal). LacksDerivation Stack core given proofs f.function (place_of f.spot) f.wrong)
    entry_status

-- ---- together

abbrev pub source_of : UnitTree → CoreUnitTree → (given proofs : ProofsTree) → CertifiedSource
source_of unit core given proofs =
    record { unit = unit; core = core; given = given; proofs = proofs }

abbrev pub of_proofs :
    UnitTree → CoreUnitTree → (given proofs : ProofsTree) → Steps tool CertifiedSource
of_proofs unit core given proofs =
    first (covering core given proofs) (λ u. gives (source_of unit core given proofs))

abbrev pub of_given : UnitTree → CoreUnitTree → (given : ProofsTree) → Steps tool CertifiedSource
of_given unit core given =
    first (leaving_no_cycle core given)
    (λ u. first (filling core given) (of_proofs unit core given))

abbrev pub of_core : UnitTree → (file : Option (List ℕ)) → CoreUnitTree → Steps tool CertifiedSource
of_core unit file core = first (reading_proofs core file) (of_given unit core)

abbrev pub of_file : UnitTree → (file : Option (List ℕ)) → Steps tool CertifiedSource
of_file unit file = first (coring unit) (of_core unit file)

-- the unit, wherever it comes from, is certified with the proofs of the file that is named, if one is
abbrev pub proved : (proof : Option (List ℕ)) → UnitTree → Steps tool CertifiedSource
proved proof unit = then (proof_file proof) (of_file unit)

-- the same of the unit of a source
abbrev pub certified : CertifyWords → Steps tool CertifiedSource
certified w = then (origin w.source) (proved w.proof)

-- ---- what the parts of the code answer

-- the source and its proof file pass, and come to what the code holds
pub record HasProved (w : CertifyWords) (before after : StoreView) (c : CertifiedUnit)
    : Type 0 where
  pub source : CertifiedSource
  pub passed : Passed (certified w) before after source
  pub holds : Certifies source c

-- the answer of `read_certified`
abbrev pub ReadsProved : CertifyWords → StoreView → StoreView → Result CertifiedUnit Status → Type 0
ReadsProved w before after (Ok c) = HasProved w before after c
ReadsProved w before after (Err status) = Halted (certified w) before after status
