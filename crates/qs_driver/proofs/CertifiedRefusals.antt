-- Each refusal of a source or its proofs comes where its cause is.
use Rattle.std.proofs.Common.{◌≡◌, ◌≢◌, ◌⊎◌, ◌∙◌, ℕ, List, Option, Some, None, ap, subst, sym, inl, inr, IsTrue}
use Rattle.std.proofs.lemmas.Option.{same_Some}
use Rattle.std.specs.Prelude.{Vec}
use Rattle.std.specs.declared.alloc.Global.{Global}
use Rattle.qs_base.specs.declared.places.Pos.{Pos}
use Rattle.qs_core.specs.Trees.{CoreUnitTree}
use Rattle.qs_core.specs.FunctionNames.{function_name}
use Rattle.qs_elaborate_bodies.specs.Units.{core_of}
use Rattle.qs_triples.specs.Derivations.{ProofsTree}
use Rattle.qs_triples.specs.Rules.{DerivFault}
use Rattle.qs_analyse.specs.Fillable.{entry_functions}
use Rattle.qs_callgraph.specs.CallLists.{numbers}
use Rattle.qs_prooftext_meaning.specs.declared.fault.TextFault.{TextFault}
use Rattle.qs_report.specs.declared.fault_texts.Spot.{Spot}
use Rattle.qs_report.specs.declared.fault_texts.ProofText.{ProofText}
use Rattle.qs_certify.specs.Certification.{CannotCertify, IsCertified, IsCycleFault, HasNoOrder, OfGiven}
use Rattle.qs_certify.specs.Entries.{EntryFault, first_fault, IsEntryFault}
use Rattle.qs_certify.specs.Given.{HasTextFault}
use Rattle.qs_certify.specs.declared.fault.CertifyFault.{CertifyFault}
use Rattle.qs_certify.specs.declared.fault.CertifyFault.TheVariants as faults
use Rattle.qs_certify.proofs.OneLaws.{order_is_told, entry_faults_are_told}
use Rattle.qs_certify.proofs.RefusalLaws.{text_faults_are_told, cycles_are_told}
use Rattle.qs_ports.specs.StoreView.{StoreView, Files}
use Rattle.qs_driver_session.specs.Limits.{source_limit, proof_limit}
use Rattle.qs_driver_steps.specs.Files.{IsTooLong}
use Rattle.qs_driver_session.specs.Files.{HoldsWith}
use Rattle.qs_driver_session.specs.Files as files
use Rattle.qs_driver_session.specs.Source.{IsPlaceOf, IsTypedUnit}
use Rattle.qs_driver_session.specs.Told.{EntryPlace, place_of, fault_place, fault_text}
use Rattle.qs_driver_steps.specs.Files.{StoreHeld}
use Rattle.qs_driver_session.specs.declared.status.ProofFault.{ProofFault}
use Rattle.qs_driver_session.specs.declared.status.ProofFault.TheVariants.{Text, Cycle, Order, Entry}
use Rattle.qs_driver_session.specs.declared.status.Status.{Status}
use Rattle.qs_driver_session.specs.declared.status.Status.TheVariants.{Done, Source, Proof, Missing, NoMemory}
use Rattle.qs_driver_session.specs.declared.status.SourceFault.TheVariants.{TooLong}
use Rattle.qs_driver_session.specs.declared.status.FileKind.TheVariants as kinds
use Rattle.qs_driver_session.proofs.FilesLaws.{held_content, held_long}
use Rattle.qs_driver_session.proofs.SourceFollows.{IsNoRefusal, SourceEnds, good, source_ends, source_no_unit, refuses_source, done_is_none, not_absent, not_long, one_content, same_content}
use Rattle.qs_driver_session.proofs.SourceFollows as source
use Rattle.qs_driver_session.proofs.SourceLaws.{same_pos}
use Rattle.qs_driver_proofs.specs.Refusals.{Tells, IsTextPlace, HasTextFaultAt}
use Rattle.qs_driver.specs.Certified.{CertifyWords, CertifiedSource, LacksCertified, ReadsCertified, WasReadProof, HoldsProof, HoldsBoth, HoldsUnit, OfProof, LeavesCycle, IsCycleOf, HasFirstFault, LacksDerivation, IsCycleStatus, IsEntryStatus, RefusesCertified}
use Rattle.qs_driver.specs.Certified as meant
use Rattle.qs_driver.proofs.CertifiedFollows.{same_cores, tells_none}
use Rattle.qs_driver_proofs.proofs.ToldPlaces.{told_by}

-- ---- how it ends

-- the status is none of those at which a source or its proofs are refused
pub record IsNoCertifiedRefusal (status : Status) : Type 0 where
  pub of_source : IsNoRefusal status
  pub not_missing : status ≢ Missing kinds.Derivation
  pub not_long : status ≢ Source (TooLong kinds.Derivation)
  pub not_wrong : (told : ProofFault) → status ≢ Proof told

pub done_is_no_refusal : (status : Status) → status ≡ Done → IsNoCertifiedRefusal status
done_is_no_refusal status e = record { of_source = done_is_none status e; not_missing = λ f. cc; not_long = λ f. cc; not_wrong = λ told f. cc }

-- this fault is told, and it has a cause
pub record IsToldOf (told : ProofFault) (u : CoreUnitTree) (file : Option (List ℕ)) : Type 0 where
  pub fault : CertifyFault
  pub cause : CannotCertify u file fault
  pub tells : Tells u file fault told

-- the proofs cover the core
pub record IsCovered (u : CoreUnitTree) (file : Option (List ℕ)) : Type 0 where
  pub given : ProofsTree
  pub proofs : ProofsTree
  pub certified : IsCertified u file given proofs

pub data CertifiedEnds (c : CertifyWords) (f : Files) (status : Status) : Type 0 where
  -- the source is refused
  of_source : SourceEnds (f c.source) status → (HoldsUnit c f → ⊥) → CertifiedEnds c f status
  absent : OfProof c f (λ file. file ≡ None) → status ≡ Missing kinds.Derivation → CertifiedEnds c f status
  long : OfProof c f (λ file. IsTooLong file proof_limit) → status ≡ Source (TooLong kinds.Derivation) → CertifiedEnds c f status
  wrong : (told : ProofFault) → HoldsBoth c f (IsToldOf told) → status ≡ Proof told → CertifiedEnds c f status
  right : HoldsBoth c f IsCovered → IsNoCertifiedRefusal status → CertifiedEnds c f status

-- ---- what was read is there, where the store tells its files

pub proof_held : (v : StoreView) (proof file : Option (List ℕ)) → IsTrue v.told → WasReadProof v proof file → HoldsProof v.files proof file
proof_held v None file told r = r
proof_held v (Some name) None told r = absurd r
proof_held v (Some name) (Some text) told r = held_content r told

unit_there : (c : CertifyWords) (v : StoreView) (name : List ℕ) → IsTrue v.told → meant.ComesToProof c v name → HoldsUnit c v.files
unit_there c v name told r = record { content = r.text; holds = held_content r.text_read told; has = r.typed }

pub was_right : (c : CertifyWords) (v : StoreView) (s : CertifiedSource) (status : Status) → IsTrue v.told → ReadsCertified c v s → IsNoCertifiedRefusal status → CertifiedEnds c v.files status
was_right c v s status told r none = right (record {
  text = r.text;
  there = held_content r.text_read told;
  typed = r.is.typed_as.typed;
  core = s.core;
  core_is = ap core_of r.is.typed_as.trees_are ∙ r.is.has_core.is ∙ ap Some r.is.core_is;
  file = r.file;
  proof_there = proof_held v c.proof r.file told r.file_read;
  so = record { given = s.given; proofs = s.proofs; certified = r.is.certified };
}) none

-- the cases of a refusal, in their order; in that of a source `source_no_unit` says that it is no unit
pub certified_ends : (c : CertifyWords) (v w : StoreView) (status : Status) → StoreHeld v w → IsTrue v.told → LacksCertified c v w status → CertifiedEnds c v.files status ⊎ (status ≡ NoMemory)
certified_ends c v w status n told (meant.no_source l) = elim (source_ends v w c.source status n told l) [
  | inl x ↦ elim (source_no_unit v w c.source status n l) [
    | inl never ↦ inl (of_source x (never told))
    | inr e ↦ inr e
  ]
  | inr e ↦ inr e
]
certified_ends c v w status n told (meant.unread_proof name comes (files.missing m e)) = inl (absent (record { unit = unit_there c v name told comes; name = name; named = comes.named; so = m.absent told }) e)
certified_ends c v w status n told (meant.unread_proof name comes (files.unreadable f e)) = absurd (n f.failed.rose)
certified_ends c v w status n told (meant.unread_proof name comes (files.too_long l e)) = inl (long (record { unit = unit_there c v name told comes; name = name; named = comes.named; so = held_long l told }) e)
certified_ends c v w status n told (meant.unread_proof name comes (files.no_memory u e)) = inr e
certified_ends c v w status n is_told (meant.wrong_proofs told u r e) = inl (wrong told (record {
  text = r.text;
  there = held_content r.text_read is_told;
  typed = r.wrong.typed;
  core = r.wrong.has_core.core;
  core_is = r.wrong.has_core.is;
  file = r.file;
  proof_there = proof_held v c.proof r.file is_told r.file_read;
  so = record { fault = r.wrong.fault; cause = r.wrong.cause; tells = r.wrong.tells };
}) e)
certified_ends c v w status n told (meant.no_memory u e) = inr e

-- ---- a proof file is in one state

no_absent_proof : (f : Files) (proof file : Option (List ℕ)) (name : List ℕ) → proof ≡ Some name → f name ≡ None → HoldsProof f proof file → ⊥
no_absent_proof f None file name e gone h = absurd cc
no_absent_proof f (Some found) None name e gone h = h
no_absent_proof f (Some found) (Some text) name e gone h =
    let same : found ≡ name = cc in
    not_absent (f found) text (ap f same ∙ gone) h.there

no_long_proof : (f : Files) (proof file : Option (List ℕ)) (name : List ℕ) → proof ≡ Some name → IsTooLong (f name) proof_limit → HoldsProof f proof file → ⊥
no_long_proof f None file name e more h = absurd cc
no_long_proof f (Some found) None name e more h = h
no_long_proof f (Some found) (Some text) name e more h =
    let same : found ≡ name = cc in
    not_long (f found) proof_limit text h (subst (λ (x : List ℕ). IsTooLong (f x) proof_limit) (sym same) more)

pub one_file : (f : Files) (proof a b : Option (List ℕ)) → HoldsProof f proof a → HoldsProof f proof b → a ≡ b
one_file f None a b h k = h ∙ sym k
one_file f (Some name) None b h k = absurd h
one_file f (Some name) (Some a) None h k = absurd k
one_file f (Some name) (Some a) (Some b) h k = ap Some (one_content (f name) proof_limit a b h k)

-- ---- a source and its file have one core and one text

cores_at : (s t : List ℕ) → s ≡ t → (a : IsTypedUnit s) (b : IsTypedUnit t) (x y : CoreUnitTree) → core_of a.unit.trees ≡ Some x → core_of b.unit.trees ≡ Some y → x ≡ y
cores_at s t e a b x y h k = subst (λ (text : List ℕ). (c : IsTypedUnit text) → core_of c.unit.trees ≡ Some y → x ≡ y) e (λ c l. same_cores s a c x y h l) b k

-- what is so of the one is so of the other
as_there : (c : CertifyWords) (f : Files) (P Q : CoreUnitTree → Option (List ℕ) → Type 0) (h : HoldsBoth c f P) → HoldsBoth c f Q → Q h.core h.file
as_there c f P Q h k =
    let texts : k.text ≡ h.text = one_content (f c.source) source_limit k.text h.text k.there h.there in
    let cores : k.core ≡ h.core = cores_at k.text h.text texts k.typed h.typed k.core h.core k.core_is h.core_is in
    let same_file : k.file ≡ h.file = one_file f c.proof k.file h.file k.proof_there h.proof_there in
    subst (λ (u : CoreUnitTree). Q u h.file) cores (subst (λ (file : Option (List ℕ)). Q k.core file) same_file k.so)

-- of the same source and file something else is so
with_so : (c : CertifyWords) (f : Files) (P Q : CoreUnitTree → Option (List ℕ) → Type 0) (h : HoldsBoth c f P) → Q h.core h.file → HoldsBoth c f Q
with_so c f P Q h so = record { text = h.text; there = h.there; typed = h.typed; core = h.core; core_is = h.core_is; file = h.file; proof_there = h.proof_there; so = so }

unit_of : (c : CertifyWords) (f : Files) (P : CoreUnitTree → Option (List ℕ) → Type 0) → HoldsBoth c f P → HoldsUnit c f
unit_of c f P h = record { content = h.text; holds = h.there; has = h.typed }

-- ---- a status of the source is none of the proofs

record IsNoProofRefusal (status : Status) : Type 0 where
  not_missing : status ≢ Missing kinds.Derivation
  not_long : status ≢ Source (TooLong kinds.Derivation)
  not_wrong : (told : ProofFault) → status ≢ Proof told

source_alone : (file : Option (List ℕ)) (status : Status) → SourceEnds file status → (HoldsWith file source_limit IsTypedUnit → ⊥) → IsNoProofRefusal status
source_alone file status (source.absent a e) never = record { not_missing = λ g. cc; not_long = λ g. cc; not_wrong = λ told g. cc }
source_alone file status (source.long l e) never = record { not_missing = λ g. cc; not_long = λ g. cc; not_wrong = λ told g. cc }
source_alone file status (source.lexical fault pos h e) never = record { not_missing = λ g. cc; not_long = λ g. cc; not_wrong = λ told g. cc }
source_alone file status (source.syntactic fault place h e) never = record { not_missing = λ g. cc; not_long = λ g. cc; not_wrong = λ told g. cc }
source_alone file status (source.ill_typed fault place h e) never = record { not_missing = λ g. cc; not_long = λ g. cc; not_wrong = λ told g. cc }
source_alone file status (source.good h none) never = absurd (never h)

missing_is_none : (status : Status) → status ≡ Missing kinds.Derivation → IsNoRefusal status
missing_is_none status e = record { not_missing = λ f. cc; not_long = λ f. cc; not_lexical = λ fault pos f. cc; not_syntactic = λ fault place f. cc; not_typing = λ fault place f. cc }

long_is_none : (status : Status) → status ≡ Source (TooLong kinds.Derivation) → IsNoRefusal status
long_is_none status e = record { not_missing = λ f. cc; not_long = λ f. cc; not_lexical = λ fault pos f. cc; not_syntactic = λ fault place f. cc; not_typing = λ fault place f. cc }

wrong_is_none : (status : Status) (told : ProofFault) → status ≡ Proof told → IsNoRefusal status
wrong_is_none status told e = record { not_missing = λ f. cc; not_long = λ f. cc; not_lexical = λ fault pos f. cc; not_syntactic = λ fault place f. cc; not_typing = λ fault place f. cc }

ends_of_source : (c : CertifyWords) (f : Files) (status : Status) → CertifiedEnds c f status → SourceEnds (f c.source) status
ends_of_source c f status (of_source x never) = x
ends_of_source c f status (absent o e) = good o.unit (missing_is_none status e)
ends_of_source c f status (long o e) = good o.unit (long_is_none status e)
ends_of_source c f status (wrong told b e) = good (unit_of c f (IsToldOf told) b) (wrong_is_none status told e)
ends_of_source c f status (right b none) = good (unit_of c f IsCovered b) none.of_source

-- ---- the proof file isn't there

tells_missing : (c : CertifyWords) (f : Files) (status : Status) → CertifiedEnds c f status → status ≡ Missing kinds.Derivation → OfProof c f (λ file. file ≡ None)
tells_missing c f status (of_source x never) g = absurd ((source_alone (f c.source) status x never).not_missing g)
tells_missing c f status (absent o e) g = o
tells_missing c f status (long o e) g = absurd cc
tells_missing c f status (wrong told b e) g = absurd cc
tells_missing c f status (right b none) g = absurd (none.not_missing g)

-- one file isn't absent and too long
absent_or_long : (c : CertifyWords) (f : Files) → OfProof c f (λ file. file ≡ None) → OfProof c f (λ file. IsTooLong file proof_limit) → ⊥
absent_or_long c f a l =
    let same : a.name ≡ l.name = same_content c.proof a.name l.name a.named l.named in
    not_absent (f l.name) l.so.content (ap f (sym same) ∙ a.so) l.so.there

leads_missing : (c : CertifyWords) (f : Files) (status : Status) → CertifiedEnds c f status → OfProof c f (λ file. file ≡ None) → status ≡ Missing kinds.Derivation
leads_missing c f status (of_source x never) o = absurd (never o.unit)
leads_missing c f status (absent a e) o = e
leads_missing c f status (long l e) o = absurd (absent_or_long c f o l)
leads_missing c f status (wrong told b e) o = absurd (no_absent_proof f c.proof b.file o.name o.named o.so b.proof_there)
leads_missing c f status (right b none) o = absurd (no_absent_proof f c.proof b.file o.name o.named o.so b.proof_there)

-- ---- it is too long

tells_long : (c : CertifyWords) (f : Files) (status : Status) → CertifiedEnds c f status → status ≡ Source (TooLong kinds.Derivation) → OfProof c f (λ file. IsTooLong file proof_limit)
tells_long c f status (of_source x never) g = absurd ((source_alone (f c.source) status x never).not_long g)
tells_long c f status (absent o e) g = absurd cc
tells_long c f status (long o e) g = o
tells_long c f status (wrong told b e) g = absurd cc
tells_long c f status (right b none) g = absurd (none.not_long g)

leads_long : (c : CertifyWords) (f : Files) (status : Status) → CertifiedEnds c f status → OfProof c f (λ file. IsTooLong file proof_limit) → status ≡ Source (TooLong kinds.Derivation)
leads_long c f status (of_source x never) o = absurd (never o.unit)
leads_long c f status (absent a e) o = absurd (absent_or_long c f a o)
leads_long c f status (long l e) o = e
leads_long c f status (wrong told b e) o = absurd (no_long_proof f c.proof b.file o.name o.named o.so b.proof_there)
leads_long c f status (right b none) o = absurd (no_long_proof f c.proof b.file o.name o.named o.so b.proof_there)

-- ---- what a fault that is told says of the proofs

tells_wrong : (c : CertifyWords) (f : Files) (status : Status) (told : ProofFault) → CertifiedEnds c f status → status ≡ Proof told → HoldsBoth c f (IsToldOf told)
tells_wrong c f status told (of_source x never) g = absurd ((source_alone (f c.source) status x never).not_wrong told g)
tells_wrong c f status told (absent o e) g = absurd cc
tells_wrong c f status told (long o e) g = absurd cc
tells_wrong c f status told (wrong found b e) g =
    let both : ◌≡◌ {A = Status} (Proof found) (Proof told) = sym e ∙ g in
    let same : found ≡ told = cc in
    subst (λ (x : ProofFault). HoldsBoth c f (IsToldOf x)) same b
tells_wrong c f status told (right b none) g = absurd (none.not_wrong told g)

text_cause : (u : CoreUnitTree) (file : Option (List ℕ)) (cause : CertifyFault) (fault : TextFault) (pos : Pos) → CannotCertify u file cause → Tells u file cause (Text fault pos) → HasTextFaultAt u file fault pos
text_cause u file faults.NoMemory fault pos c t = absurd t
text_cause u file (faults.Text found) fault pos c (q, e, place) =
    let same_fault : found ≡ fault = cc in
    let same_place : q ≡ pos = cc in
    record {
      first = subst (λ (x : TextFault). HasTextFault u file x) same_fault c;
      place = subst (λ (x : TextFault). IsTextPlace file x pos) same_fault (subst (λ (x : Pos). IsTextPlace file found x) same_place place);
    }
text_cause u file (faults.Cycle fs) fault pos c (names, e, are) = absurd cc
text_cause u file (faults.Order name) fault pos c e = absurd cc
text_cause u file (faults.Entry g found) fault pos c (spot, text, e, is) = absurd cc

cycle_cause : (u : CoreUnitTree) (file : Option (List ℕ)) (cause : CertifyFault) (names : Vec (List ℕ) Global) → CannotCertify u file cause → Tells u file cause (Cycle names) → IsCycleOf names.items u file
cycle_cause u file faults.NoMemory names c t = absurd t
cycle_cause u file (faults.Text fault) names c (q, e, place) = absurd cc
cycle_cause u file (faults.Cycle fs) names c (found, e, are) =
    let same : found ≡ names = cc in
    record {
      functions = numbers fs.items;
      named = ap (λ (v : Vec (List ℕ) Global). v.items) (sym same) ∙ are;
      cycle = c;
    }
cycle_cause u file (faults.Order name) names c e = absurd cc
cycle_cause u file (faults.Entry g found) names c (spot, text, e, is) = absurd cc

order_cause : (u : CoreUnitTree) (file : Option (List ℕ)) (cause : CertifyFault) (name : List ℕ) → CannotCertify u file cause → Tells u file cause (Order name) → OfGiven u file (λ given. HasNoOrder u given name)
order_cause u file faults.NoMemory name c t = absurd t
order_cause u file (faults.Text fault) name c (q, e, place) = absurd cc
order_cause u file (faults.Cycle fs) name c (names, e, are) = absurd cc
order_cause u file (faults.Order found) name c e =
    let same : found ≡ name = cc in
    subst (λ (x : List ℕ). OfGiven u file (λ given. HasNoOrder u given x)) same c
order_cause u file (faults.Entry g found) name c (spot, text, e, is) = absurd cc

-- the fault that is told is the first one of the entry
entry_cause : (u : CoreUnitTree) (file : Option (List ℕ)) (cause : CertifyFault) (function : List ℕ) (spot : Spot) (text : ProofText) → CannotCertify u file cause → Tells u file cause (Entry function spot text) → LacksDerivation function (place_of spot) text u file
entry_cause u file faults.NoMemory function spot text c t = absurd t
entry_cause u file (faults.Text fault) function spot text c (q, e, place) = absurd cc
entry_cause u file (faults.Cycle fs) function spot text c (names, e, are) = absurd cc
entry_cause u file (faults.Order name) function spot text c e = absurd cc
entry_cause u file (faults.Entry g found) function spot text c (s, t, e, is) =
    let named : function ≡ function_name u g.0 = cc in
    let same_spot : s ≡ spot = cc in
    let same_text : t ≡ text = cc in
    let first = c.so.first in
    let told = told_by u g.0 found first.fault s t first.is_told is in
    record {
      function = g.0;
      fault = first.fault;
      named = named;
      first = record {
        given = c.given;
        given_is = c.given_is;
        so = record { proofs = c.so.proofs; all = c.so.all; in_order = c.so.in_order; first = first.first };
      };
      place_is = ap place_of (sym same_spot) ∙ told.place;
      wrong_is = sym same_text ∙ told.wrong;
    }

tells_text : (c : CertifyWords) (f : Files) (status : Status) → CertifiedEnds c f status → (fault : TextFault) (pos : Pos) → status ≡ Proof (Text fault pos) → HoldsBoth c f (λ u file. HasTextFaultAt u file fault pos)
tells_text c f status x fault pos e =
    let b = tells_wrong c f status (Text fault pos) x e in
    with_so c f (IsToldOf (Text fault pos)) (λ u file. HasTextFaultAt u file fault pos) b (text_cause b.core b.file b.so.fault fault pos b.so.cause b.so.tells)

tells_names : (c : CertifyWords) (f : Files) (status : Status) → CertifiedEnds c f status → (names : Vec (List ℕ) Global) → status ≡ Proof (Cycle names) → HoldsBoth c f (IsCycleOf names.items)
tells_names c f status x names e =
    let b = tells_wrong c f status (Cycle names) x e in
    with_so c f (IsToldOf (Cycle names)) (IsCycleOf names.items) b (cycle_cause b.core b.file b.so.fault names b.so.cause b.so.tells)

tells_cycle : (c : CertifyWords) (f : Files) (status : Status) → CertifiedEnds c f status → IsCycleStatus status → HoldsBoth c f LeavesCycle
tells_cycle c f status x (names, e) =
    let b = tells_names c f status x names e in
    with_so c f (IsCycleOf names.items) LeavesCycle b (record { functions = b.so.functions; cycle = b.so.cycle })

tells_order : (c : CertifyWords) (f : Files) (status : Status) → CertifiedEnds c f status → (name : List ℕ) → status ≡ Proof (Order name) → HoldsBoth c f (λ u file. OfGiven u file (λ given. HasNoOrder u given name))
tells_order c f status x name e =
    let b = tells_wrong c f status (Order name) x e in
    with_so c f (IsToldOf (Order name)) (λ u file. OfGiven u file (λ given. HasNoOrder u given name)) b (order_cause b.core b.file b.so.fault name b.so.cause b.so.tells)

tells_entry : (c : CertifyWords) (f : Files) (status : Status) → CertifiedEnds c f status → (function : List ℕ) (place : EntryPlace) (text : ProofText) → IsEntryStatus function place text status → HoldsBoth c f (LacksDerivation function place text)
tells_entry c f status x function place text (spot, at, e) =
    let b = tells_wrong c f status (Entry function spot text) x e in
    let lacks : LacksDerivation function (place_of spot) text b.core b.file = entry_cause b.core b.file b.so.fault function spot text b.so.cause b.so.tells in
    with_so c f (IsToldOf (Entry function spot text)) (LacksDerivation function place text) b (subst (λ (p : EntryPlace). LacksDerivation function p text b.core b.file) at lacks)

-- ---- what the proofs lead to

same_text_place : (file : Option (List ℕ)) (fault : TextFault) (p q : Pos) → IsTextPlace file fault p → IsTextPlace file fault q → p ≡ q
same_text_place file fault p q a b =
    let texts : a.text ≡ b.text = same_content file a.text b.text a.is b.is in
    let here : Some a.at ≡ Some b.at = sym a.names ∙ b.names in
    let at : a.at ≡ b.at = same_Some a.at b.at here in
    same_pos b.text b.at p q (subst (λ (x : List ℕ). IsPlaceOf x b.at p) texts (subst (λ (n : ℕ). IsPlaceOf a.text n p) at a.place)) b.place

-- a fault of the text is told, and at its place
text_told : (u : CoreUnitTree) (file : Option (List ℕ)) (cause : CertifyFault) (told : ProofFault) (fault : TextFault) (pos : Pos) → HasTextFaultAt u file fault pos → CannotCertify u file cause → Tells u file cause told → told ≡ Text fault pos
text_told u file cause told fault pos k c t = elim ((text_faults_are_told u k.first.text fault k.first.first).only cause (subst (λ (x : Option (List ℕ)). CannotCertify u x cause) k.first.is c)) [
  | inl e ↦ absurd (tells_none u file cause told e t)
  | inr e ↦ (let here : Tells u file (faults.Text fault) told = subst (λ (x : CertifyFault). Tells u file x told) e t in here.1 ∙ ap (Text fault) (same_text_place file fault here.0 pos here.2 k.place))
]

leads_text : (c : CertifyWords) (f : Files) (status : Status) → CertifiedEnds c f status → (fault : TextFault) (pos : Pos) → HoldsBoth c f (λ u file. HasTextFaultAt u file fault pos) → status ≡ Proof (Text fault pos)
leads_text c f status (of_source x never) fault pos h = absurd (never (unit_of c f (λ u file. HasTextFaultAt u file fault pos) h))
leads_text c f status (absent o e) fault pos h = absurd (no_absent_proof f c.proof h.file o.name o.named o.so h.proof_there)
leads_text c f status (long o e) fault pos h = absurd (no_long_proof f c.proof h.file o.name o.named o.so h.proof_there)
leads_text c f status (wrong told b e) fault pos h =
    let k = as_there c f (IsToldOf told) (λ u file. HasTextFaultAt u file fault pos) b h in
    e ∙ ap Proof (text_told b.core b.file b.so.fault told fault pos k b.so.cause b.so.tells)
leads_text c f status (right b none) fault pos h =
    let k = as_there c f IsCovered (λ u file. HasTextFaultAt u file fault pos) b h in
    let u = b.core in
    absurd ((text_faults_are_told u k.first.text fault k.first.first).not_certified b.so.given b.so.proofs (subst (λ (x : Option (List ℕ)). IsCertified u x b.so.given b.so.proofs) k.first.is b.so.certified))

cycle_told : (u : CoreUnitTree) (file : Option (List ℕ)) (given : ProofsTree) (cause : CertifyFault) (told : ProofFault) → IsCycleFault u given cause → Tells u file cause told → (names : Vec (List ℕ) Global) × (told ≡ Cycle names)
cycle_told u file given faults.NoMemory told is t = absurd t
cycle_told u file given (faults.Text fault) told is t = absurd is
cycle_told u file given (faults.Cycle fs) told is (names, e, are) = (names, e)
cycle_told u file given (faults.Order name) told is t = absurd is
cycle_told u file given (faults.Entry g fault) told is t = absurd is

leads_cycle : (c : CertifyWords) (f : Files) (status : Status) → CertifiedEnds c f status → HoldsBoth c f LeavesCycle → IsCycleStatus status
leads_cycle c f status (of_source x never) h = absurd (never (unit_of c f LeavesCycle h))
leads_cycle c f status (absent o e) h = absurd (no_absent_proof f c.proof h.file o.name o.named o.so h.proof_there)
leads_cycle c f status (long o e) h = absurd (no_long_proof f c.proof h.file o.name o.named o.so h.proof_there)
leads_cycle c f status (wrong told b e) h =
    let k = as_there c f (IsToldOf told) LeavesCycle b h in
    let u = b.core in
    elim ((cycles_are_told u b.file k.cycle.given k.functions k.cycle.given_is k.cycle.so).only b.so.fault b.so.cause) [
      | inl none ↦ absurd (tells_none u b.file b.so.fault told none b.so.tells)
      | inr is ↦ (let there = cycle_told u b.file k.cycle.given b.so.fault told is b.so.tells in (there.0, e ∙ ap Proof there.1))
    ]
leads_cycle c f status (right b none) h =
    let k = as_there c f IsCovered LeavesCycle b h in
    absurd ((cycles_are_told b.core b.file k.cycle.given k.functions k.cycle.given_is k.cycle.so).not_certified b.so.given b.so.proofs b.so.certified)

-- an order is told where definitions have none
leads_order : (c : CertifyWords) (f : Files) (status : Status) → CertifiedEnds c f status → (name : List ℕ) → HoldsBoth c f (λ u file. OfGiven u file (λ given. HasNoOrder u given name)) → status ≡ Proof (Order name)
leads_order c f status (of_source x never) name h = absurd (never (unit_of c f (λ u file. OfGiven u file (λ given. HasNoOrder u given name)) h))
leads_order c f status (absent o e) name h = absurd (no_absent_proof f c.proof h.file o.name o.named o.so h.proof_there)
leads_order c f status (long o e) name h = absurd (no_long_proof f c.proof h.file o.name o.named o.so h.proof_there)
leads_order c f status (wrong told b e) name h =
    let k = as_there c f (IsToldOf told) (λ u file. OfGiven u file (λ given. HasNoOrder u given name)) b h in
    let u = b.core in
    elim ((order_is_told u b.file k.given name k.given_is k.so).only b.so.fault b.so.cause) [
      | inl none ↦ absurd (tells_none u b.file b.so.fault told none b.so.tells)
      | inr is ↦ (let there : told ≡ Order name = subst (λ (x : CertifyFault). Tells u b.file x told) is b.so.tells in e ∙ ap Proof there)
    ]
leads_order c f status (right b none) name h =
    let k = as_there c f IsCovered (λ u file. OfGiven u file (λ given. HasNoOrder u given name)) b h in
    absurd ((order_is_told b.core b.file k.given name k.given_is k.so).not_certified b.so.given b.so.proofs b.so.certified)

-- what is told of the entry whose first fault this is
entry_told : (u : CoreUnitTree) (file : Option (List ℕ)) (function : List ℕ) (place : EntryPlace) (text : ProofText) (l : LacksDerivation function place text u file) (cause : CertifyFault) (told : ProofFault) → IsEntryFault u l.first.so.proofs (entry_functions l.first.given.functions) cause → Tells u file cause told → IsEntryStatus function place text (Proof told)
entry_told u file function place text l faults.NoMemory told is t = absurd t
entry_told u file function place text l (faults.Text fault) told is t = absurd is
entry_told u file function place text l (faults.Cycle fs) told is t = absurd is
entry_told u file function place text l (faults.Order name) told is t = absurd is
entry_told u file function place text l (faults.Entry g found) told is (spot, found_text, e, so) =
    let here : EntryFault = record { function = l.function; fault = l.fault } in
    let there : EntryFault = record { function = g.0; fault = is.fault } in
    let one : here ≡ there = same_Some here there (sym l.first.so.first ∙ is.first) in
    let function_is : l.function ≡ g.0 = ap (λ (x : EntryFault). x.function) one in
    let fault_is : l.fault ≡ is.fault = ap (λ (x : EntryFault). x.fault) one in
    let by = told_by u g.0 found is.fault spot found_text is.is_told so in
    let name : function ≡ function_name u g.0 = l.named ∙ ap (function_name u) function_is in
    let text_is : found_text ≡ text = by.wrong ∙ ap (λ (x : EntryFault). fault_text u x.function x.fault) (sym one) ∙ sym l.wrong_is in (
      spot,
      by.place ∙ ap fault_place (sym fault_is) ∙ sym l.place_is,
      ap Proof (e ∙ ap (λ (n : List ℕ). Entry n spot found_text) (sym name) ∙ ap (Entry function spot) text_is),
    )

some_fault : {u : CoreUnitTree} {given : ProofsTree} {function : ℕ} {fault : DerivFault} (h : HasFirstFault u given function fault) → first_fault u h.proofs (entry_functions given.functions) ≢ None
some_fault h none = let is = h.first in (let never : ⊥ = cc in never)

-- an entry of a function is told where it is the first that isn't derived, and its first fault is
leads_entry : (c : CertifyWords) (f : Files) (status : Status) → CertifiedEnds c f status → (function : List ℕ) (place : EntryPlace) (text : ProofText) → HoldsBoth c f (LacksDerivation function place text) → IsEntryStatus function place text status
leads_entry c f status (of_source x never) function place text h = absurd (never (unit_of c f (LacksDerivation function place text) h))
leads_entry c f status (absent o e) function place text h = absurd (no_absent_proof f c.proof h.file o.name o.named o.so h.proof_there)
leads_entry c f status (long o e) function place text h = absurd (no_long_proof f c.proof h.file o.name o.named o.so h.proof_there)
leads_entry c f status (wrong told b e) function place text h =
    let k = as_there c f (IsToldOf told) (LacksDerivation function place text) b h in
    let given = k.first.given in
    let all = k.first.so in
    elim ((entry_faults_are_told b.core b.file given all.proofs k.first.given_is all.all all.in_order (some_fault all)).only b.so.fault b.so.cause) [
      | inl none ↦ absurd (tells_none b.core b.file b.so.fault told none b.so.tells)
      | inr is ↦ subst (IsEntryStatus function place text) (sym e) (entry_told b.core b.file function place text k b.so.fault told is b.so.tells)
    ]
leads_entry c f status (right b none) function place text h =
    let k = as_there c f IsCovered (LacksDerivation function place text) b h in
    let all = k.first.so in
    absurd ((entry_faults_are_told b.core b.file k.first.given all.proofs k.first.given_is all.all all.in_order (some_fault all)).not_certified b.so.given b.so.proofs b.so.certified)

-- ---- the clauses

pub refuses_certified : (c : CertifyWords) (f : Files) (status : Status) → CertifiedEnds c f status → RefusesCertified c f status
refuses_certified c f status x = record {
  source = refuses_source (f c.source) status (ends_of_source c f status x);
  missing = (tells_missing c f status x, leads_missing c f status x);
  too_long = (tells_long c f status x, leads_long c f status x);
  text = λ fault pos. (tells_text c f status x fault pos, leads_text c f status x fault pos);
  cycle = (tells_cycle c f status x, leads_cycle c f status x);
  one_cycle = λ names e. tells_names c f status x names e;
  order = λ name. (tells_order c f status x name, leads_order c f status x name);
  entry = λ function place text. (tells_entry c f status x function place text, leads_entry c f status x function place text);
}
