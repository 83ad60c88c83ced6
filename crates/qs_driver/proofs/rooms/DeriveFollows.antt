-- What follows from what is due to `derive`.
use Rattle.std.proofs.Common.{◌≡◌, ◌≢◌, ◌⊎◌, ◌∙◌, List, ℕ, [], Option, Some, None, refl, ap, subst, sym, inl, inr}
use Rattle.std.specs.Prelude.{Vec}
use Rattle.std.specs.declared.alloc.Global.{Global}
use Rattle.qs_core.specs.Trees.{CoreUnitTree}
use Rattle.qs_triples.specs.Derivations.{ProofsTree}
use Rattle.qs_prooftext_meaning.specs.Proofs.{no_proofs}
use Rattle.qs_analyse.specs.Fillable.{entry_functions}
use Rattle.qs_certify.specs.Certification.{AreAll, CannotCertify}
use Rattle.qs_certify.specs.Entries.{IsFirstFault}
use Rattle.qs_certify.specs.Given.{GivenIs}
use Rattle.qs_certify.specs.declared.fault.CertifyFault.{CertifyFault}
use Rattle.qs_certify.specs.declared.fault.CertifyFault.TheVariants as faults
use Rattle.qs_certify.proofs.RefusalLaws.{no_place}
use Rattle.qs_ports.specs.StoreView.{StoreView}
use Rattle.qs_driver_session.specs.Due.{Due}
use Rattle.qs_driver_steps.specs.Files.{StoreHeld}
use Rattle.qs_driver_session.specs.declared.status.ProofFault.{ProofFault}
use Rattle.qs_driver_session.specs.declared.status.ProofFault.TheVariants.{Cycle}
use Rattle.qs_driver_session.specs.declared.status.Status.{Status}
use Rattle.qs_driver_session.specs.declared.status.Status.TheVariants.{Proof, NoMemory}
use Rattle.qs_driver_session.proofs.SourceFollows.{source_own}
use Rattle.qs_driver_session.proofs.rooms.Follows.{Follows}
use Rattle.qs_driver_proofs.specs.Refusals.{Tells}
use Rattle.qs_driver.specs.Certified.{LacksCertified}
use Rattle.qs_driver.specs.Certified as certified
use Rattle.qs_driver.specs.commands.Derive.{DeriveWords, inputs, derive, CannotDerive, IsDueToDerive, Accepts, Refuses, IsOfDerive}
use Rattle.qs_driver.specs.commands.Derive as meant
use Rattle.qs_driver.proofs.rooms.WritingFollows.{WritingEnds, written, same, not_certified, unwritable, no_memory, right_is_written, own, same_name, shows}
use Rattle.qs_driver.proofs.rooms.WritingFollows as writing

-- ---- how it ends

abbrev DeriveEnds : DeriveWords → StoreView → StoreView → Status → Type 0
DeriveEnds d v w status = WritingEnds (inputs d) (d.source ≡ d.out) v w status

cannot : (d : DeriveWords) (v w : StoreView) (status : Status) → d.source ≢ d.out → CannotDerive d v w status → DeriveEnds d v w status
cannot d v w status differ (meant.not_certified l) = not_certified differ l
cannot d v w status differ (meant.unwritable c e) = unwritable differ c.failed e
cannot d v w status differ (meant.no_memory u e) = no_memory differ u e

derive_ends : (d : DeriveWords) (v w : StoreView) (due : Due) → IsDueToDerive d v w due → DeriveEnds d v w due.status
derive_ends d v w due (meant.derived differ h) = written differ h.source h.has_proofs.reads h.counts (ap (λ (x : Due). x.status) h.is_due)
derive_ends d v w due (meant.named_twice twice u is) = same twice u (ap (λ (x : Due). x.status) is)
derive_ends d v w due (meant.refused differ status c is) =
    let P : Status → Type 0 = λ s. CannotDerive d v w s in
    cannot d v w due.status differ (subst P (sym (ap (λ (x : Due). x.status) is)) c)

-- ---- its own statuses

-- without a proof file nothing but a cycle is wrong with proofs
cycle_alone : (u : CoreUnitTree) (file : Option (List ℕ)) (fault : CertifyFault) (told : ProofFault) → file ≡ None → CannotCertify u file fault → Tells u file fault told → (functions : Vec (List ℕ) Global) × (told ≡ Cycle functions)
cycle_alone u file faults.NoMemory told none cause tells = absurd tells
cycle_alone u file (faults.Text fault) told none cause tells = absurd (let never : None ≡ Some cause.text = sym none ∙ cause.is in (let no : ⊥ = cc in no))
cycle_alone u file (faults.Cycle fs) told none cause (functions, is, named) = (functions, is)
cycle_alone u file (faults.Order name) told none cause tells =
    let given : GivenIs u None cause.given = subst (λ (x : Option (List ℕ)). GivenIs u x cause.given) none cause.given_is in
    let all : AreAll u no_proofs cause.so.proofs = subst (λ (p : ProofsTree). AreAll u p cause.so.proofs) given cause.so.all in
    absurd (no_place cause.so.proofs.defines cause.so.misplaced.at (all.derives.in_order refl) cause.so.misplaced.first)
cycle_alone u file (faults.Entry f fault) told none cause tells =
    let given : GivenIs u None cause.given = subst (λ (x : Option (List ℕ)). GivenIs u x cause.given) none cause.given_is in
    let P : ProofsTree → Type 0 = λ p. IsFirstFault u cause.so.proofs (entry_functions p.functions) f.0 fault in
    let first : IsFirstFault u cause.so.proofs [] f.0 fault = subst P given cause.so.first in
    absurd (let none_first = first.first in (let no : ⊥ = cc in no))

wrong_is_cycle : (d : DeriveWords) (v : StoreView) (told : ProofFault) → certified.ReadsWrong (inputs d) v told → (functions : Vec (List ℕ) Global) × (told ≡ Cycle functions)
wrong_is_cycle d v told r = cycle_alone r.wrong.has_core.core r.file r.wrong.fault told r.file_read r.wrong.cause r.wrong.tells

own_certified : (d : DeriveWords) (v w : StoreView) (status : Status) → StoreHeld v w → LacksCertified (inputs d) v w status → IsOfDerive status ⊎ (status ≡ NoMemory)
own_certified d v w status n (certified.no_source l) = elim (source_own v w d.source status n l) [
  | inl of ↦ inl (meant.of_source of)
  | inr e ↦ inr e
]
own_certified d v w status n (certified.unread_proof name comes r) = absurd (let named = comes.named in (let no : ⊥ = cc in no))
own_certified d v w status n (certified.wrong_proofs told u r e) =
    let cycle = wrong_is_cycle d v told r in
    inl (subst IsOfDerive (sym (e ∙ ap (λ (x : ProofFault). Proof x) cycle.1)) (meant.recursive cycle.0))
own_certified d v w status n (certified.no_memory u e) = inr e

-- ---- what follows

accepts : (d : DeriveWords) (v w : StoreView) (status : Status) → StoreHeld v w → DeriveEnds d v w status → Accepts d v status ⊎ (status ≡ NoMemory)
accepts d v w status n x = elim (right_is_written (inputs d) (d.source ≡ d.out) v w status n x) [
  | inl right ↦ inl (λ g. right g.differ g.told g.right)
  | inr e ↦ inr e
]

refuses : (d : DeriveWords) (v w : StoreView) (status : Status) → StoreHeld v w → status ≢ NoMemory → DeriveEnds d v w status → Refuses d v status
refuses d v w status n m x = record {
  own = own (inputs d) (d.source ≡ d.out) v w status IsOfDerive meant.done meant.one_name (own_certified d v w status n) n m x;
  same_name = same_name (inputs d) (d.source ≡ d.out) v w status n x;
  certified = λ told differ. writing.refuses (inputs d) (d.source ≡ d.out) v w status n m x told differ;
}

pub derive_follows : (d : DeriveWords) → Follows (derive d)
derive_follows d = record {
  accepts = λ v w due n is. accepts d v w due.status n (derive_ends d v w due is);
  refuses = λ v w due n m is. refuses d v w due.status n m (derive_ends d v w due is);
  shows = λ v w due r is. shows (inputs d) (d.source ≡ d.out) v w due.status r (derive_ends d v w due is);
}
