-- What follows of a command that certifies a source and writes a file of it, as `build` and `derive` do.
use Rattle.std.proofs.Common.{◌≡◌, ◌≢◌, ◌⊎◌, ◌<◌, subst, sym, inl, inr, IsTrue}
use Rattle.std.specs.Prelude.{◌↔◌}
use Rattle.qs_ports.specs.StoreView.{StoreView, HasSameCounts, HasFailed}
use Rattle.qs_driver_steps.specs.Files.{IsUntouched}
use Rattle.qs_driver_session.specs.Source as source
use Rattle.qs_driver_steps.specs.Files.{StoreHeld}
use Rattle.qs_driver_session.specs.Promises.{SaysStoreFailed}
use Rattle.qs_driver_session.specs.declared.status.Status.{Status}
use Rattle.qs_driver_session.specs.declared.status.Status.TheVariants.{Done, Words, StoreFailed, NoMemory}
use Rattle.qs_driver_session.specs.declared.status.WordsFault.TheVariants.{SameName}
use Rattle.qs_driver_session.specs.declared.status.FileKind.TheVariants as kinds
use Rattle.qs_driver_session.proofs.rooms.Follows.{not_risen, not_untouched}
use Rattle.qs_driver.specs.Certified.{CertifyWords, CertifiedSource, ReadsCertified, LacksCertified, HoldsRight, IsOfCertified, RefusesCertified}
use Rattle.qs_driver.specs.Certified as certified
use Rattle.qs_driver.proofs.CertifiedFollows.{certified_own, certified_shows, certified_no_right}
use Rattle.qs_driver.proofs.CertifiedRefusals.{CertifiedEnds, certified_ends, was_right, refuses_certified, done_is_no_refusal}

-- How it ends. Its words may name one file twice.
pub data WritingEnds (c : CertifyWords) (Twice : Type 0) (v w : StoreView) (status : Status) : Type 0 where
  written : (Twice → ⊥) → (s : CertifiedSource) → ReadsCertified c v s → HasSameCounts v w → status ≡ Done → WritingEnds c Twice v w status
  same : Twice → IsUntouched v w → status ≡ Words SameName → WritingEnds c Twice v w status
  not_certified : (Twice → ⊥) → LacksCertified c v w status → WritingEnds c Twice v w status
  unwritable : (Twice → ⊥) → HasFailed v w → status ≡ StoreFailed kinds.Output → WritingEnds c Twice v w status
  no_memory : (Twice → ⊥) → IsUntouched v w → status ≡ NoMemory → WritingEnds c Twice v w status

no_words_of_source : {status : Status} → source.IsOfSource status → status ≡ Words SameName → ⊥
no_words_of_source source.missing_source e = cc
no_words_of_source source.long_source e = cc
no_words_of_source (source.ill_spelled fault pos) e = cc
no_words_of_source (source.no_reading fault place) e = cc
no_words_of_source (source.ill_typed fault place) e = cc

no_words_fault : {status : Status} → IsOfCertified status → status ≡ Words SameName → ⊥
no_words_fault (certified.of_source of) e = no_words_of_source of e
no_words_fault certified.missing_proof e = cc
no_words_fault certified.long_proof e = cc
no_words_fault (certified.wrong_proof told) e = cc

module _ (c : CertifyWords) (Twice : Type 0) (v w : StoreView) (status : Status) where
  -- ---- what is accepted

  pub right_is_written : StoreHeld v w → WritingEnds c Twice v w status → ((Twice → ⊥) → IsTrue v.told → HoldsRight c v.files → status ≡ Done) ⊎ (status ≡ NoMemory)
  right_is_written n (written differ s r counts e) = inl (λ d told right. e)
  right_is_written n (same twice u e) = inl (λ d told right. absurd (d twice))
  right_is_written n (not_certified differ l) = elim (certified_no_right c v w status n l) [
    | inl never ↦ inl (λ d told right. absurd (never told right))
    | inr e ↦ inr e
  ]
  right_is_written n (unwritable differ failed e) = absurd (n failed.rose)
  right_is_written n (no_memory differ u e) = inr e

  -- ---- what is refused

  -- the statuses at which it ends, where those are known at which there is nothing certified
  pub own : (IsOwn : Status → Type 0) → IsOwn Done → IsOwn (Words SameName) → (LacksCertified c v w status → IsOwn status ⊎ (status ≡ NoMemory)) → StoreHeld v w → status ≢ NoMemory → WritingEnds c Twice v w status → IsOwn status
  own IsOwn done one_name lacking n m (written differ s r counts e) = subst IsOwn (sym e) done
  own IsOwn done one_name lacking n m (same twice u e) = subst IsOwn (sym e) one_name
  own IsOwn done one_name lacking n m (not_certified differ l) = elim (lacking l) [
    | inl of ↦ of
    | inr e ↦ absurd (m e)
  ]
  own IsOwn done one_name lacking n m (unwritable differ failed e) = absurd (n failed.rose)
  own IsOwn done one_name lacking n m (no_memory differ u e) = absurd (m e)

  tells_same : StoreHeld v w → WritingEnds c Twice v w status → status ≡ Words SameName → Twice
  tells_same n (written differ s r counts e) f = absurd cc
  tells_same n (same twice u e) f = twice
  tells_same n (not_certified differ l) f = elim (certified_own c v w status n l) [
    | inl of ↦ absurd (no_words_fault of f)
    | inr e ↦ absurd cc
  ]
  tells_same n (unwritable differ failed e) f = absurd cc
  tells_same n (no_memory differ u e) f = absurd cc

  leads_same : WritingEnds c Twice v w status → Twice → status ≡ Words SameName
  leads_same (written differ s r counts e) twice = absurd (differ twice)
  leads_same (same t u e) twice = e
  leads_same (not_certified differ l) twice = absurd (differ twice)
  leads_same (unwritable differ failed e) twice = absurd (differ twice)
  leads_same (no_memory differ u e) twice = absurd (differ twice)

  pub same_name : StoreHeld v w → WritingEnds c Twice v w status → (status ≡ Words SameName) ↔ Twice
  same_name n x = (tells_same n x, leads_same x)

  ends_of_certified : StoreHeld v w → status ≢ NoMemory → IsTrue v.told → (Twice → ⊥) → WritingEnds c Twice v w status → CertifiedEnds c v.files status
  ends_of_certified n m told d (written differ s r counts e) = was_right c v s status told r (done_is_no_refusal status e)
  ends_of_certified n m told d (same twice u e) = absurd (d twice)
  ends_of_certified n m told d (not_certified differ l) = elim (certified_ends c v w status n told l) [
    | inl x ↦ x
    | inr e ↦ absurd (m e)
  ]
  ends_of_certified n m told d (unwritable differ failed e) = absurd (n failed.rose)
  ends_of_certified n m told d (no_memory differ u e) = absurd (m e)

  pub refuses : StoreHeld v w → status ≢ NoMemory → WritingEnds c Twice v w status → IsTrue v.told → (Twice → ⊥) → RefusesCertified c v.files status
  refuses n m x told d = refuses_certified c v.files status (ends_of_certified n m told d x)

  -- ---- what isn't hidden

  pub shows : v.faults < w.faults → WritingEnds c Twice v w status → SaysStoreFailed status
  shows r (written differ s reads counts e) = absurd (not_risen _ _ counts.faults r)
  shows r (same twice u e) = absurd (not_untouched v w u r)
  shows r (not_certified differ l) = certified_shows c v w status l r
  shows r (unwritable differ failed e) = inl (kinds.Output, e)
  shows r (no_memory differ u e) = absurd (not_untouched v w u r)
