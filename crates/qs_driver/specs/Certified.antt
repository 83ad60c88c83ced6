-- A source and a proof file that a command reads: a unit with proofs that cover it, or why it is refused.
use Rattle.std.specs.Prelude.{◌≡◌, ◌↔◌, ℕ, List, map, Option, Some, None, Result, Ok, Err, Vec}
use Rattle.std.specs.declared.alloc.Global.{Global}
use Rattle.qs_base.specs.declared.places.Pos.{Pos}
use Rattle.qs_syntax.specs.Trees.{UnitTree}
use Rattle.qs_typing_findings.specs.TypedOf.{typed_tree}
use Rattle.qs_core.specs.CallGraph.{IsCycle, IsWithoutRecursion}
use Rattle.qs_core.specs.Trees.{CoreUnitTree}
use Rattle.qs_core.specs.UnitTrees.{unit_tree}
use Rattle.qs_core.specs.FunctionNames.{function_name}
use Rattle.qs_elaborate_laws.specs.FitLaws.{HasCore}
use Rattle.qs_elaborate_bodies.specs.Units.{core_of}
use Rattle.qs_prooftext_meaning.specs.Reading.{Reading}
use Rattle.qs_prooftext_meaning.specs.declared.fault.TextFault.{TextFault}
use Rattle.qs_assert.specs.Order.{IsInOrder}
use Rattle.qs_triples.specs.Derivations.{ProofsTree}
use Rattle.qs_triples.specs.Entries.{has_entry}
use Rattle.qs_triples.specs.Rules as rules
use Rattle.qs_triples.specs.TreeOf.{proofs_tree}
use Rattle.qs_triples.specs.declared.fault.DerivFault.{DerivFault}
use Rattle.qs_analyse.specs.Fillable.{entry_functions}
use Rattle.qs_certify.specs.Certification.{AreAll, IsCertified, CannotCertify, HasCounts, OfGiven, HasNoOrder}
use Rattle.qs_certify.specs.Entries.{first_fault}
use Rattle.qs_certify.specs.Certification as certify
use Rattle.qs_certify.specs.Laws.{AreRightProofs}
use Rattle.qs_certify.specs.declared.fault.CertifyFault.{CertifyFault}
use Rattle.qs_report.specs.declared.fault_texts.Spot.{Spot}
use Rattle.qs_report.specs.declared.fault_texts.ProofText.{ProofText}
use Rattle.qs_ports.specs.StoreView.{StoreView, Files}
use Rattle.qs_driver_session.specs.Limits.{source_limit, proof_limit}
use Rattle.qs_driver_session.specs.Names.{name_in}
use Rattle.qs_driver_steps.specs.Files.{IsUntouched, HoldsContent, IsTooLong}
use Rattle.qs_driver_session.specs.Files.{HoldsWith, WasReadAs, CannotRead, ReadsFile}
use Rattle.qs_driver_session.specs.Source.{HoldsText, IsTypedAs, IsTypedUnit, IsOfSource, LacksSource, RefusesSource}
use Rattle.qs_driver_session.specs.Told.{EntryPlace, place_of, fault_place, fault_text}
use Rattle.qs_driver_session.specs.declared.status.Status.{Status}
use Rattle.qs_driver_session.specs.declared.status.Status.TheVariants.{Source, Proof, Missing, NoMemory}
use Rattle.qs_driver_session.specs.declared.status.SourceFault.TheVariants.{TooLong}
use Rattle.qs_driver_session.specs.declared.status.ProofFault.{ProofFault}
use Rattle.qs_driver_session.specs.declared.status.ProofFault.TheVariants.{Text, Cycle, Order, Entry}
use Rattle.qs_driver_session.specs.declared.status.FileKind.TheVariants as kinds
use Rattle.qs_driver_proofs.specs.Refusals.{Tells, HasTextFaultAt, TellsFault}
use Rattle.qs_driver.specs.declared.certified.CertifyOrder.{CertifyOrder}
use Rattle.qs_driver.specs.declared.certified.CertifiedUnit.{CertifiedUnit}

-- ---- the words

-- the source, and the proof file where one is named
pub record CertifyWords : Type 0 where
  pub source : List ℕ
  pub proof : Option (List ℕ)

abbrev pub certify_words : List ℕ → Option (List ℕ) → CertifyWords
certify_words source proof = record { source = source; proof = proof }

-- the words as the code holds them
abbrev pub words_in : CertifyOrder → CertifyWords
words_in order = certify_words order.source.now (name_in order.proof)

-- ---- what is certified

-- A unit, its core, the proofs that the file gives, and all proofs.
pub record CertifiedSource : Type 0 where
  pub unit : UnitTree
  pub core : CoreUnitTree
  pub given : ProofsTree
  pub proofs : ProofsTree

-- The text is this typed unit, which has this core, as which it runs; the file gives the one proofs, the other are all
-- proofs, and they cover the core. (Where no file is named none are given.)
pub record IsCertifiedAs (text : List ℕ) (file : Option (List ℕ)) (s : CertifiedSource)
    : Type 0 where
  pub typed_as : IsTypedAs text s.unit
  pub has_core : HasCore s.unit
  pub core_is : has_core.core ≡ s.core
  pub certified : IsCertified s.core file s.given s.proofs

-- these bytes were read as the proof file that is named, or none is named
abbrev pub WasReadProof : StoreView → (proof : Option (List ℕ)) → (file : Option (List ℕ)) → Type 0
WasReadProof before None file = file ≡ None
WasReadProof before (Some name) None = ⊥
WasReadProof before (Some name) (Some text) = WasReadAs before name proof_limit text

-- the source and the proof file are as they were
pub record AreAsBefore (w : CertifyWords) (files later : Files) : Type 0 where
  pub source : later w.source ≡ files w.source
  pub proof : (name : List ℕ) → w.proof ≡ Some name → later name ≡ files name

-- the source and the proof file were read, and they come to this
pub record ReadsCertified (w : CertifyWords) (before : StoreView) (s : CertifiedSource)
    : Type 0 where
  pub text : List ℕ
  pub file : Option (List ℕ)
  pub text_read : WasReadAs before w.source source_limit text
  pub file_read : WasReadProof before w.proof file
  pub is : IsCertifiedAs text file s

-- ---- what is wrong with proofs, and how it is told

-- The text is a typed unit with this core, the file is read for it, and this is the first cause to refuse its proofs.
pub record HasWrongProofs (text : List ℕ) (file : Option (List ℕ)) (told : ProofFault)
    : Type 0 where
  pub typed : IsTypedUnit text
  pub has_core : HasCore typed.unit.trees
  pub fault : CertifyFault
  pub cause : CannotCertify has_core.core file fault
  pub tells : Tells has_core.core file fault told

-- the source and the proof file were read, and this is wrong with the proofs
pub record ReadsWrong (w : CertifyWords) (before : StoreView) (told : ProofFault) : Type 0 where
  pub text : List ℕ
  pub file : Option (List ℕ)
  pub text_read : WasReadAs before w.source source_limit text
  pub file_read : WasReadProof before w.proof file
  pub wrong : HasWrongProofs text file told

-- the source was read and is a typed unit, and its proof file has this name
pub record ComesToProof (w : CertifyWords) (before : StoreView) (name : List ℕ) : Type 0 where
  pub text : List ℕ
  pub text_read : WasReadAs before w.source source_limit text
  pub typed : IsTypedUnit text
  pub named : w.proof ≡ Some name

-- Why there is nothing certified to go on with, and the status at that. The tests come in this order.
pub data LacksCertified (w : CertifyWords) (before after : StoreView) (status : Status)
    : Type 0 where
  no_source : LacksSource before after w.source status → LacksCertified w before after status
  unread_proof : (name : List ℕ) → ComesToProof w before name
      → CannotRead before after name kinds.Derivation proof_limit status
      → LacksCertified w before after status
  wrong_proofs : (told : ProofFault) → IsUntouched before after → ReadsWrong w before told
      → status ≡ Proof told → LacksCertified w before after status
  no_memory : IsUntouched before after → status ≡ NoMemory → LacksCertified w before after status

-- ---- when proofs are right

-- the file reads as proofs that leave no cycle, whose definitions are in order, and whose entries are derived
pub record IsRightFile (core : CoreUnitTree) (text : List ℕ) : Type 0 where
  pub given : ProofsTree
  pub reads : Reading core text given
  pub right : AreRightProofs core given

-- of the core of the unit this is so
abbrev pub OfCore : UnitTree → (CoreUnitTree → Type 0) → Type 0
OfCore unit IsSo = (core : CoreUnitTree) → core_of unit ≡ Some core → IsSo core

-- the proof file is there and right for the unit's core, or none is named and the unit's core is without recursion
abbrev pub HoldsRightProofs : Files → (proof : Option (List ℕ)) → UnitTree → Type 0
HoldsRightProofs files None unit = OfCore unit IsWithoutRecursion
HoldsRightProofs files (Some name) unit =
    HoldsWith (files name) proof_limit (λ text. OfCore unit (λ core. IsRightFile core text))

-- the source is there and is a typed unit, and its proofs are right
pub record HoldsRight (w : CertifyWords) (files : Files) : Type 0 where
  pub text : List ℕ
  pub there : HoldsContent (files w.source) source_limit text
  pub typed : IsTypedUnit text
  pub proofs : HoldsRightProofs files w.proof typed.unit.trees

-- ---- when it is refused

-- the statuses at which a source or its proofs are refused
pub data IsOfCertified : Status → Type 0 where
  of_source : {status : Status} → IsOfSource status → IsOfCertified status
  missing_proof : IsOfCertified (Missing kinds.Derivation)
  long_proof : IsOfCertified (Source (TooLong kinds.Derivation))
  wrong_proof : (told : ProofFault) → IsOfCertified (Proof told)

-- the source is there and is a typed unit
abbrev pub HoldsUnit : CertifyWords → Files → Type 0
HoldsUnit w files = HoldsText (files w.source) IsTypedUnit

-- a proof file is named, the source is a typed unit, and of the file this is so
pub record OfProof (w : CertifyWords) (files : Files) (IsSo : Option (List ℕ) → Type 0)
    : Type 0 where
  pub unit : HoldsUnit w files
  pub name : List ℕ
  pub named : w.proof ≡ Some name
  pub so : IsSo (files name)

-- the bytes of the proof file that is named, within its limit, or none where none is named
abbrev pub HoldsProof : Files → (proof file : Option (List ℕ)) → Type 0
HoldsProof files None file = file ≡ None
HoldsProof files (Some name) None = ⊥
HoldsProof files (Some name) (Some text) = HoldsContent (files name) proof_limit text

-- the source and the proof file are there, and of the core and the file this is so
pub record HoldsBoth (w : CertifyWords) (files : Files)
    (IsSo : CoreUnitTree → Option (List ℕ) → Type 0) : Type 0 where
  pub text : List ℕ
  pub there : HoldsContent (files w.source) source_limit text
  pub typed : IsTypedUnit text
  pub core : CoreUnitTree
  pub core_is : core_of typed.unit.trees ≡ Some core
  pub file : Option (List ℕ)
  pub proof_there : HoldsProof files w.proof file
  pub so : IsSo core file

-- functions without an entry in the file call each other in turn
pub record LeavesCycle (u : CoreUnitTree) (file : Option (List ℕ)) : Type 0 where
  pub functions : List ℕ
  pub cycle : OfGiven u file (λ given. IsCycle u (has_entry given) functions)

-- these names are those of such functions
pub record IsCycleOf (names : List (List ℕ)) (u : CoreUnitTree) (file : Option (List ℕ))
    : Type 0 where
  pub functions : List ℕ
  pub named : names ≡ map (function_name u) functions
  pub cycle : OfGiven u file (λ given. IsCycle u (has_entry given) functions)

-- of all proofs the definitions are in order, and the entry of this function is the first of the file that isn't derived
pub record HasFirstFault (u : CoreUnitTree) (given : ProofsTree) (function : ℕ)
    (fault : rules.DerivFault) : Type 0 where
  pub proofs : ProofsTree
  pub all : AreAll u given proofs
  pub in_order : IsInOrder proofs.defines
  pub first :
      first_fault u proofs (entry_functions given.functions)
      ≡ Some (record { function = function; fault = fault })

-- the entry of this function is the first of the file that isn't derived, and this is wrong first, at this place of it
pub record LacksDerivation (name : List ℕ) (place : EntryPlace) (wrong : ProofText)
    (u : CoreUnitTree) (file : Option (List ℕ)) : Type 0 where
  pub function : ℕ
  pub fault : rules.DerivFault
  pub named : name ≡ function_name u function
  pub first : OfGiven u file (λ given. HasFirstFault u given function fault)
  pub place_is : place ≡ fault_place fault
  pub wrong_is : wrong ≡ fault_text u function fault

-- some cycle is told
abbrev pub IsCycleStatus : Status → Type 0
IsCycleStatus status = (names : Vec (List ℕ) Global) × (status ≡ Proof (Cycle names))

-- of the entry of this function it is told that this is wrong at this place of it
abbrev pub IsEntryStatus : (function : List ℕ) → EntryPlace → ProofText → Status → Type 0
IsEntryStatus f place wrong status =
    (spot : Spot) × (place_of spot ≡ place) × (status ≡ Proof (Entry f spot wrong))

-- Each refusal of a source or its proofs comes exactly where its cause is.
pub record RefusesCertified (w : CertifyWords) (files : Files) (status : Status) : Type 0 where
  pub source : RefusesSource (files w.source) status
  pub missing : (status ≡ Missing kinds.Derivation) ↔ OfProof w files (λ file. file ≡ None)
  pub too_long :
      (status ≡ Source (TooLong kinds.Derivation))
      ↔ OfProof w files (λ file. IsTooLong file proof_limit)
  pub text : (fault : TextFault) (pos : Pos)
      → (status ≡ Proof (Text fault pos))
      ↔ HoldsBoth w files (λ u file. HasTextFaultAt u file fault pos)
  pub cycle : IsCycleStatus status ↔ HoldsBoth w files LeavesCycle
  pub one_cycle : (names : Vec (List ℕ) Global) → status ≡ Proof (Cycle names)
      → HoldsBoth w files (IsCycleOf names.items)
  pub order : (name : List ℕ)
      → (status ≡ Proof (Order name))
      ↔ HoldsBoth w files (λ u file. OfGiven u file (λ given. HasNoOrder u given name))
  pub entry : (function : List ℕ) (place : EntryPlace) (wrong : ProofText)
      → IsEntryStatus function place wrong status
      ↔ HoldsBoth w files (LacksDerivation function place wrong)

-- ---- what the parts of the code answer

-- a unit is certified: its core and its proofs, as the code holds them
pub record IsCertifiedUnit (unit : UnitTree) (file : Option (List ℕ)) (c : CertifiedUnit)
    : Type 0 where
  pub unit_is : typed_tree c.typed ≡ unit
  pub core_is : core_of unit ≡ Some (unit_tree c.core)
  pub certified : certify.Certifies (unit_tree c.core) file c.certified

-- why it isn't, and the status at that
pub data LacksCertificate (unit : UnitTree) (file : Option (List ℕ)) (status : Status)
    : Type 0 where
  cannot_certify : (core : CoreUnitTree) (fault : CertifyFault) → core_of unit ≡ Some core
      → CannotCertify core file fault
      → TellsFault core file fault status → LacksCertificate unit file status
  lacks_memory : status ≡ NoMemory → LacksCertificate unit file status

-- the answer of `certify_typed`
abbrev pub CertifiesTyped :
    UnitTree → (file : Option (List ℕ)) → Result CertifiedUnit Status → Type 0
CertifiesTyped unit file (Ok c) = IsCertifiedUnit unit file c
CertifiesTyped unit file (Err status) = LacksCertificate unit file status

-- the core that it holds is the unit's
abbrev pub HasItsCore : CertifiedUnit → Type 0
HasItsCore c = core_of (typed_tree c.typed) ≡ Some (unit_tree c.core)

-- what the code holds of what is certified
pub record Certifies (s : CertifiedSource) (c : CertifiedUnit) : Type 0 where
  pub unit : typed_tree c.typed ≡ s.unit
  pub core : unit_tree c.core ≡ s.core
  pub proofs : proofs_tree c.certified.proofs ≡ s.proofs
  pub counts : HasCounts s.given c.certified

-- the source and the proof file were read, they come to what the code holds, and no file changed
pub record HasCertified (w : CertifyWords) (before after : StoreView) (c : CertifiedUnit)
    : Type 0 where
  pub untouched : IsUntouched before after
  pub source : CertifiedSource
  pub reads : ReadsCertified w before source
  pub holds : Certifies source c

-- the text of the proof file, as the code holds it
abbrev pub file_of : Option (Vec ℕ Global) → Option (List ℕ)
file_of None = None
file_of (Some text) = Some text.items

-- the answer of `read_proof`, where the proof file has this name or none
abbrev pub ReadsProof :
    StoreView → StoreView → (proof : Option (List ℕ)) → Result (Option (Vec ℕ Global)) Status
    → Type 0
ReadsProof before after None (Ok None) = IsUntouched before after
ReadsProof before after None (Ok (Some text)) = ⊥
ReadsProof before after None (Err status) = ⊥
ReadsProof before after (Some name) (Ok None) = ⊥
ReadsProof before after (Some name) (Ok (Some text)) =
    ReadsFile before after name kinds.Derivation proof_limit (Ok text)
ReadsProof before after (Some name) (Err status) =
    CannotRead before after name kinds.Derivation proof_limit status

-- the answer of `read_certified`
abbrev pub ReadsAll : CertifyWords → StoreView → StoreView → Result CertifiedUnit Status → Type 0
ReadsAll w before after (Ok c) = HasCertified w before after c
ReadsAll w before after (Err status) = LacksCertified w before after status
