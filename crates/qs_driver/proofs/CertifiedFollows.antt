-- When a source or its proofs are refused, where no call failed and memory was found.
use Rattle.std.proofs.Common.{◌≡◌, ◌⊎◌, ◌∙◌, ℕ, ◌<◌, List, Option, Some, None, ap, subst, sym, inl, inr, IsTrue}
use Rattle.std.proofs.lemmas.Option.{same_Some}
use Rattle.qs_syntax.specs.Trees.{UnitTree}
use Rattle.qs_core.specs.Trees.{CoreUnitTree}
use Rattle.qs_elaborate_bodies.specs.Units.{core_of}
use Rattle.qs_certify.specs.Certification.{CannotCertify}
use Rattle.qs_certify.specs.declared.fault.CertifyFault.{CertifyFault}
use Rattle.qs_certify.specs.declared.fault.CertifyFault.TheVariants as faults
use Rattle.qs_certify.proofs.RefusalLaws.{right_proofs_are_certified, units_without_recursion_are_certified}
use Rattle.qs_ports.specs.StoreView.{StoreView, Files}
use Rattle.qs_driver_session.specs.Limits.{source_limit, proof_limit}
use Rattle.qs_driver_steps.specs.Files.{HoldsContent}
use Rattle.qs_driver_session.specs.Files.{HoldsWith}
use Rattle.qs_driver_session.specs.Files as files
use Rattle.qs_driver_session.specs.Source.{IsTypedUnit}
use Rattle.qs_driver_steps.specs.Files.{StoreHeld}
use Rattle.qs_driver_session.specs.Promises.{SaysStoreFailed}
use Rattle.qs_driver_session.specs.declared.status.ProofFault.{ProofFault}
use Rattle.qs_driver_session.specs.declared.status.Status.{Status}
use Rattle.qs_driver_session.specs.declared.status.Status.TheVariants.{NoMemory}
use Rattle.qs_driver_session.specs.declared.status.FileKind.TheVariants as kinds
use Rattle.qs_driver_session.proofs.FilesLaws.{held_content, held_long}
use Rattle.qs_driver_session.proofs.SourceFollows.{not_absent, not_long, one_content, source_own, source_no_unit}
use Rattle.qs_driver_session.proofs.SourceLaws.{same_trees}
use Rattle.qs_driver_session.proofs.rooms.Follows.{not_untouched, source_shows, unread_shows}
use Rattle.qs_driver_proofs.specs.Refusals.{Tells}
use Rattle.qs_driver.specs.Certified.{CertifyWords, LacksCertified, HoldsRight, HoldsRightProofs, HasWrongProofs, ReadsWrong, WasReadProof, IsOfCertified, of_source, missing_proof, long_proof, wrong_proof}
use Rattle.qs_driver.specs.Certified as meant

-- ---- its own statuses

pub certified_own : (c : CertifyWords) (v w : StoreView) (status : Status) → StoreHeld v w → LacksCertified c v w status → IsOfCertified status ⊎ (status ≡ NoMemory)
certified_own c v w status n (meant.no_source l) = elim (source_own v w c.source status n l) [
  | inl own ↦ inl (of_source own)
  | inr e ↦ inr e
]
certified_own c v w status n (meant.unread_proof name comes (files.missing m e)) = inl (subst IsOfCertified (sym e) missing_proof)
certified_own c v w status n (meant.unread_proof name comes (files.unreadable f e)) = absurd (n f.failed.rose)
certified_own c v w status n (meant.unread_proof name comes (files.too_long l e)) = inl (subst IsOfCertified (sym e) long_proof)
certified_own c v w status n (meant.unread_proof name comes (files.no_memory u e)) = inr e
certified_own c v w status n (meant.wrong_proofs told u r e) = inl (subst IsOfCertified (sym e) (wrong_proof told))
certified_own c v w status n (meant.no_memory u e) = inr e

-- ---- what isn't hidden

pub certified_shows : (c : CertifyWords) (v w : StoreView) (status : Status) → LacksCertified c v w status → v.faults < w.faults → SaysStoreFailed status
certified_shows c v w status (meant.no_source l) r = source_shows v w c.source status l r
certified_shows c v w status (meant.unread_proof name comes u) r = unread_shows v w name kinds.Derivation proof_limit status u r
certified_shows c v w status (meant.wrong_proofs told u wrong e) r = absurd (not_untouched v w u r)
certified_shows c v w status (meant.no_memory u e) r = absurd (not_untouched v w u r)

-- ---- what is refused isn't right

as_unit : (c : CertifyWords) (f : Files) → HoldsRight c f → HoldsWith (f c.source) source_limit IsTypedUnit
as_unit c f h = record { content = h.text; holds = h.there; has = h.typed }

-- the proof file of a right source is there
proof_there : (f : Files) (proof : Option (List ℕ)) (name : List ℕ) (unit : UnitTree) → proof ≡ Some name → HoldsRightProofs f proof unit → (text : List ℕ) × HoldsContent (f name) proof_limit text
proof_there f None name unit e h = absurd cc
proof_there f (Some found) name unit e h =
    let same : found ≡ name = cc in
    subst (λ (x : List ℕ). (text : List ℕ) × HoldsContent (f x) proof_limit text) same (h.content, h.holds)

-- no cause but want of memory is told of right proofs
pub tells_none : (u : CoreUnitTree) (file : Option (List ℕ)) (fault : CertifyFault) (told : ProofFault) → fault ≡ faults.NoMemory → Tells u file fault told → ⊥
tells_none u file fault told e t = subst (λ (f : CertifyFault). Tells u file f told) e t

no_cause : (v : StoreView) (proof file : Option (List ℕ)) (unit : UnitTree) (core : CoreUnitTree) (fault : CertifyFault) → IsTrue v.told → WasReadProof v proof file → HoldsRightProofs v.files proof unit → core_of unit ≡ Some core → CannotCertify core file fault → fault ≡ faults.NoMemory
no_cause v None file unit core fault told read right is cause =
    let is_none : file ≡ None = read in
    units_without_recursion_are_certified core fault (right core is) (subst (λ (x : Option (List ℕ)). CannotCertify core x fault) is_none cause)
no_cause v (Some name) None unit core fault told read right is cause = absurd read
no_cause v (Some name) (Some text) unit core fault told read right is cause =
    let held : HoldsContent (v.files name) proof_limit text = held_content read told in
    let one : right.content ≡ text = one_content (v.files name) proof_limit right.content text right.holds held in
    let reads = subst (λ (x : List ℕ). meant.IsRightFile core x) one (right.has core is) in
    right_proofs_are_certified core (Some text) reads.given fault reads.reads reads.right cause

-- a text has one core
pub same_cores : (text : List ℕ) (a b : IsTypedUnit text) (x y : CoreUnitTree) → core_of a.unit.trees ≡ Some x → core_of b.unit.trees ≡ Some y → x ≡ y
same_cores text a b x y h k = same_Some x y (sym h ∙ ap core_of (same_trees text a.unit b.unit) ∙ k)

wrong_or_right : (c : CertifyWords) (v : StoreView) (told : ProofFault) → IsTrue v.told → ReadsWrong c v told → HoldsRight c v.files → ⊥
wrong_or_right c v told is_told w h =
    let one : w.text ≡ h.text = one_content (v.files c.source) source_limit w.text h.text (held_content w.text_read is_told) h.there in
    let wrong : HasWrongProofs h.text w.file told = subst (λ (text : List ℕ). HasWrongProofs text w.file told) one w.wrong in
    let is : core_of h.typed.unit.trees ≡ Some wrong.has_core.core = ap core_of (same_trees h.text h.typed.unit wrong.typed.unit) ∙ wrong.has_core.is in
    let none : wrong.fault ≡ faults.NoMemory = no_cause v c.proof w.file h.typed.unit.trees wrong.has_core.core wrong.fault is_told w.file_read h.proofs is wrong.cause in
    tells_none wrong.has_core.core w.file wrong.fault told none wrong.tells

pub certified_no_right : (c : CertifyWords) (v w : StoreView) (status : Status) → StoreHeld v w → LacksCertified c v w status → (IsTrue v.told → HoldsRight c v.files → ⊥) ⊎ (status ≡ NoMemory)
certified_no_right c v w status n (meant.no_source l) = elim (source_no_unit v w c.source status n l) [
  | inl never ↦ inl (λ told h. never told (as_unit c v.files h))
  | inr e ↦ inr e
]
certified_no_right c v w status n (meant.unread_proof name comes (files.missing m e)) = inl (λ told h.
    let there = proof_there v.files c.proof name h.typed.unit.trees comes.named h.proofs in
    not_absent (v.files name) there.0 (m.absent told) there.1.there)
certified_no_right c v w status n (meant.unread_proof name comes (files.unreadable f e)) = absurd (n f.failed.rose)
certified_no_right c v w status n (meant.unread_proof name comes (files.too_long l e)) = inl (λ told h.
    let there = proof_there v.files c.proof name h.typed.unit.trees comes.named h.proofs in
    not_long (v.files name) proof_limit there.0 there.1 (held_long l told))
certified_no_right c v w status n (meant.unread_proof name comes (files.no_memory u e)) = inr e
certified_no_right c v w status n (meant.wrong_proofs told u r e) = inl (λ is_told h. wrong_or_right c v told is_told r h)
certified_no_right c v w status n (meant.no_memory u e) = inr e
