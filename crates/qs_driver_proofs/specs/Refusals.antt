-- What is wrong with proofs, and how it is told.
use Rattle.std.specs.Prelude.{◌≡◌, ◌⊎◌, ℕ, ◌<◌, true, List, [], length, map, Option, Some, None, Result, IfOk, Vec}
use Rattle.std.specs.declared.alloc.Global.{Global}
use Rattle.qs_base.specs.declared.function.FnId.{FnId}
use Rattle.qs_base.specs.declared.places.Pos.{Pos}
use Rattle.qs_core.specs.CallGraph.{is_member}
use Rattle.qs_core.specs.Trees.{CoreUnitTree}
use Rattle.qs_core.specs.FunctionNames.{function_name}
use Rattle.qs_core.specs.declared.unit.CoreUnit.{CoreUnit}
use Rattle.qs_callgraph.specs.CallLists.{numbers}
use Rattle.qs_prooftext_meaning.specs.Writing.{variable_text}
use Rattle.qs_prooftext_meaning.specs.declared.fault.TextFault.{TextFault}
use Rattle.qs_prooftext_meaning.specs.declared.fault.TextFault.TheVariants as texts
use Rattle.qs_entail.specs.declared.fault.CertFault.{CertFault}
use Rattle.qs_entail.specs.declared.fault.CertFault.TheVariants as certificates
use Rattle.qs_triples.specs.Told.{callee_view}
use Rattle.qs_triples.specs.declared.fault.DerivFault.{DerivFault}
use Rattle.qs_triples.specs.declared.fault.DerivFault.TheVariants as entries
use Rattle.qs_triples.specs.declared.fault.Place.{Place}
use Rattle.qs_triples.specs.declared.fault.Place.TheVariants as places
use Rattle.qs_certify.specs.Given.{HasTextFault}
use Rattle.qs_certify.specs.declared.fault.CertifyFault.{CertifyFault}
use Rattle.qs_certify.specs.declared.fault.CertifyFault.TheVariants as faults
use Rattle.qs_report.specs.declared.fault_texts.Path.{Path}
use Rattle.qs_report.specs.declared.fault_texts.Spot.{Spot}
use Rattle.qs_report.specs.declared.fault_texts.Spot.TheVariants as spots
use Rattle.qs_report.specs.declared.fault_texts.ProofText.{ProofText}
use Rattle.qs_report.specs.declared.fault_texts.ProofText.TheVariants as wrongs
use Rattle.qs_driver_session.specs.Source.{IsPlaceOf}
use Rattle.qs_driver_session.specs.Told.{owner_of}
use Rattle.qs_driver_session.specs.declared.status.Status.{Status}
use Rattle.qs_driver_session.specs.declared.status.Status.TheVariants.{Proof, NoMemory}
use Rattle.qs_driver_session.specs.declared.status.ProofFault.{ProofFault}
use Rattle.qs_driver_session.specs.declared.status.ProofFault.TheVariants.{Text, Cycle, Order, Entry}
use Rattle.qs_driver_proofs.specs.declared.told.Wrong.{Wrong}

-- the byte at which a fault of a text stands
abbrev pub byte_of : TextFault → Option ℕ
byte_of texts.NoMemory = None
byte_of (texts.BadByte at) = Some at
byte_of (texts.Unbalanced at) = Some at
byte_of (texts.UnknownForm at) = Some at
byte_of (texts.BadNumber at) = Some at
byte_of (texts.TooDeep at) = Some at
byte_of (texts.Duplicate at) = Some at
byte_of (texts.NoSuchFunction at) = Some at

-- the fault stands in the text of the file at this line and column
pub record IsTextPlace (file : Option (List ℕ)) (fault : TextFault) (pos : Pos) : Type 0 where
  pub text : List ℕ
  pub is : file ≡ Some text
  pub at : ℕ
  pub names : byte_of fault ≡ Some at
  pub place : IsPlaceOf text at pos

abbrev pub path_is : Path → List ℕ → Type 0
path_is path steps = path.steps.items ≡ steps

-- where a certificate has a fault: within the certificate at this path
abbrev pub path_in : CertFault → List ℕ
path_in certificates.NoMemory = []
path_in (certificates.Step path rule) = path.items
path_in (certificates.Limit path limit) = path.items

-- what is wrong there
abbrev pub IsWrongThere : CertFault → ProofText → Type 0
IsWrongThere certificates.NoMemory text = ⊥
IsWrongThere (certificates.Step path rule) text = text ≡ wrongs.Step rule
IsWrongThere (certificates.Limit path limit) text = text ≡ wrongs.Limit limit

-- the place of an assertion that mentions a variable
abbrev pub IsMentionPlace : Place → Spot → Type 0
IsMentionPlace places.Precondition spot = spot ≡ spots.Pre
IsMentionPlace places.Postcondition spot = spot ≡ spots.Post
IsMentionPlace (places.Node path) spot =
    (node : Path) × (spot ≡ spots.Body node) × path_is node path.items

-- The fault of the entry of this function, as it is told: where it is, and what is wrong there.
abbrev pub IsToldAs : CoreUnitTree → (function : ℕ) → DerivFault → Spot → ProofText → Type 0
IsToldAs u f entries.NoMemory spot text = ⊥
IsToldAs u f (entries.Shape path) spot text =
    (node : Path) × (spot ≡ spots.Body node) × path_is node path.items × (text ≡ wrongs.Shape)
IsToldAs u f (entries.Mentions place callee x) spot text =
    IsMentionPlace place spot
    × (text ≡ wrongs.Mentions (variable_text u (owner_of f (callee_view callee)) x))
IsToldAs u f (entries.Cert path fault) spot text =
    (node : Path) × (inner : Path) × (spot ≡ spots.BodyCert node inner) × path_is node path.items
    × path_is inner (path_in fault) × IsWrongThere fault text
-- never told: each function that is called has a specification
IsToldAs u f (entries.NoSpec path g) spot text = ⊥
IsToldAs u f (entries.Entry fault) spot text =
    (inner : Path) × (spot ≡ spots.Entry inner) × path_is inner (path_in fault)
    × IsWrongThere fault text
-- never told: the order is tested before the entries
IsToldAs u f (entries.BadOrder d) spot text = ⊥

-- the fault of the entry of this function is told as this
abbrev pub IsEntryTold : CoreUnitTree → (function : ℕ) → DerivFault → ProofFault → Type 0
IsEntryTold u f fault told =
    (spot : Spot) × (text : ProofText) × (told ≡ Entry (function_name u f) spot text)
    × IsToldAs u f fault spot text

-- the names of these functions, in order
abbrev pub names_of : CoreUnitTree → List FnId → List (List ℕ)
names_of u functions = map (function_name u) (numbers functions)

-- The cause why proofs can't be certified, as it is told. Want of memory is no such cause.
abbrev pub Tells : CoreUnitTree → (file : Option (List ℕ)) → CertifyFault → ProofFault → Type 0
Tells u file faults.NoMemory told = ⊥
Tells u file (faults.Text fault) told =
    (pos : Pos) × (told ≡ Text fault pos) × IsTextPlace file fault pos
Tells u file (faults.Cycle fs) told =
    (names : Vec (List ℕ) Global) × (told ≡ Cycle names) × (names.items ≡ names_of u fs.items)
Tells u file (faults.Order name) told = told ≡ Order name
Tells u file (faults.Entry f fault) told = IsEntryTold u f.0 fault told

-- the text of the file has this fault first, at this line and column
pub record HasTextFaultAt (u : CoreUnitTree) (file : Option (List ℕ)) (fault : TextFault)
    (pos : Pos) : Type 0 where
  pub first : HasTextFault u file fault
  pub place : IsTextPlace file fault pos

-- the answer of `certificate_told`
abbrev pub IsCertificateTold : CertFault → Path → ProofText → Type 0
IsCertificateTold fault path text = path_is path (path_in fault) × IsWrongThere fault text

-- this is wrong in the entry of this function, which has this fault
abbrev pub IsWrong : CoreUnitTree → (function : ℕ) → DerivFault → Wrong → Type 0
IsWrong u f fault wrong = IsToldAs u f fault wrong.spot wrong.text

-- the same of an answer, unless memory ran out
abbrev pub TellsWrong :
    {E : Type 0} → CoreUnitTree → (function : ℕ) → DerivFault → Result Wrong E → Type 0
TellsWrong u f fault result = IfOk result (λ wrong. IsWrong u f fault wrong)

-- each of these functions is one of the unit's
abbrev pub AreFunctionsOf : CoreUnit → List FnId → Type 0
AreFunctionsOf unit functions =
    (f : ℕ) → is_member f (numbers functions) ≡ true → f < length unit.functions.items

-- the answer of `proofs_told`
abbrev pub TellsFault : CoreUnitTree → (file : Option (List ℕ)) → CertifyFault → Status → Type 0
TellsFault u file fault status =
    (status ≡ NoMemory) ⊎ ((told : ProofFault) × (status ≡ Proof told) × Tells u file fault told)

-- the same, whichever the file
abbrev pub TellsOfAnyFile : CoreUnitTree → CertifyFault → Status → Type 0
TellsOfAnyFile u fault status = (file : Option (List ℕ)) → TellsFault u file fault status
