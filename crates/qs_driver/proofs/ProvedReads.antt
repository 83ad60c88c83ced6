-- What was read where a source with its proofs passed, and how the code comes to it.
use Rattle.std.proofs.Common.{ℕ, List, Option, Some, None, Result, Ok, Err, refl, sym, subst, inl, inr}
use Rattle.std.specs.Prelude.{Vec}
use Rattle.std.specs.declared.alloc.Global.{Global}
use Rattle.qs_syntax.specs.Trees.{UnitTree}
use Rattle.qs_syntax.specs.Units.{IsRead}
use Rattle.qs_core.specs.Trees.{CoreUnitTree}
use Rattle.qs_core.specs.UnitTrees.{unit_tree}
use Rattle.qs_certify.specs.Certification.{CannotCertify}
use Rattle.qs_certify.specs.declared.fault.CertifyFault.{CertifyFault}
use Rattle.qs_triples.specs.TreeOf.{proofs_tree}
use Rattle.qs_ports.specs.StoreView.{StoreView, Files}
use Rattle.qs_driver_steps.specs.Files.{IsUntouched, HoldsContent}
use Rattle.qs_driver_steps.specs.Runs.{Halted, Passed}
use Rattle.qs_driver_steps.proofs.SharedLaws.{passed_untouched}
use Rattle.qs_driver_steps.proofs.ThenLaws.{then_passed, passed_halted, then_halted, passed_both}
use Rattle.qs_driver_session.specs.Limits.{source_limit, proof_limit}
use Rattle.qs_driver_session.specs.Origin.{origin}
use Rattle.qs_driver_session.specs.Source.{IsTypedAs}
use Rattle.qs_driver_session.specs.declared.status.Status.{Status}
use Rattle.qs_driver_session.proofs.FilesLaws.{was_read_as}
use Rattle.qs_driver_session.proofs.LaterLaws.{was_read_before}
use Rattle.qs_driver_proofs.specs.Refusals.{TellsFault}
use Rattle.qs_driver_proofs.proofs.SourceReads.{passed_text, is_core_of}
use Rattle.qs_driver.specs.Certified.{CertifyWords, CertifiedSource, IsCertifiedAs, HoldsProof, WasReadProof, ReadsCertified, IsCertifiedUnit, LacksCertificate, cannot_certify, lacks_memory, CertifiesTyped, file_of}
use Rattle.qs_driver_proofs.specs.Steps.{IsCoreOf}
use Rattle.qs_driver.specs.Proved.{proof_file, of_file, source_of, proved, certified, ReadsProved}
use Rattle.qs_driver.specs.declared.certified.CertifiedUnit.{CertifiedUnit}
use Rattle.qs_driver_proofs.proofs.StepsLaws.{no_core}
use Rattle.qs_driver.proofs.ProvedLaws.{core_passes, core_wants_memory, core_stops, of_status}

-- ---- what was read

passed_file : (v u w : StoreView) (proof file : Option (List ℕ)) → IsUntouched v u → Passed (proof_file proof) u w file → WasReadProof v proof file
passed_file v u w None file before (e, is) = is
passed_file v u w (Some name) file before (a, text, r, (e, is)) =
    subst (λ (x : Option (List ℕ)). WasReadProof v (Some name) x) (sym is) (was_read_before before (was_read_as u name proof_limit text r.finds))

certified_as : (unit : UnitTree) (text : List ℕ) (file : Option (List ℕ)) (v w : StoreView) (s : CertifiedSource) → IsTypedAs text unit → Passed (of_file unit file) v w s → IsCertifiedAs text file s
certified_as unit text file v w s typed (a, core, c, (b, given, g, (d, x, n, (e, proofs, f, (h, y, k, (z, is)))))) =
    subst (λ (t : CertifiedSource). IsCertifiedAs text file t) (sym is) (record {
      typed_as = typed;
      has_core = c.finds.so.has_core;
      core_is = c.finds.so.is;
      certified = record { given_is = g.finds.so; all = f.finds.so.all; in_order = f.finds.so.in_order; covers = k.finds.so.covers };
    })

-- the source and its proof file were read, and come to this
pub passed_certified : (w : CertifyWords) (v u : StoreView) (s : CertifiedSource) → Passed (certified w) v u s → ReadsCertified w v s
passed_certified w v u s h =
    let unit = passed_both (proved w.proof) (origin w.source) v u s h in
    let file = passed_both (of_file unit.1) (proof_file w.proof) unit.0 u s unit.3 in
    let has = passed_text w.source v unit.0 unit.1 unit.2 in
    record {
      text = has.text;
      file = file.1;
      text_read = has.read_as;
      file_read = passed_file v unit.0 file.0 w.proof file.1 (passed_untouched (origin w.source) v unit.0 unit.1 unit.2) file.2;
      is = certified_as unit.1 has.text file.1 file.0 u s has.typed_as file.3;
    }

-- ---- what the files hold

-- the source and its proof file are there, and come to this
pub record HoldsSource (c : CertifyWords) (f : Files) (s : CertifiedSource) : Type 0 where
  pub text : List ℕ
  pub file : Option (List ℕ)
  pub there : HoldsContent (f c.source) source_limit text
  pub proof_there : HoldsProof f c.proof file
  pub is : IsCertifiedAs text file s

-- ---- what the certifier answers

module _ (unit : UnitTree) (file : Option (List ℕ)) (v : StoreView) where
  -- the certifier's refusal is told
  told_halts : (core : CoreUnitTree) (fault : CertifyFault) (status : Status) → IsCoreOf unit core → CannotCertify core file fault → TellsFault core file fault status → Halted (of_file unit file) v v status
  told_halts core fault status is cause (inl e) = subst (λ (x : Status). Halted (of_file unit file) v v x) (sym e) (core_wants_memory unit file core v is)
  told_halts core fault status is cause (inr (told, e, tells)) = of_status unit file core v is told status (core_stops unit file core v is fault told cause tells) e

  pub lacks_halts : {text : List ℕ} (status : Status) → IsTypedAs text unit → IsRead unit → LacksCertificate unit file status → Halted (of_file unit file) v v status
  lacks_halts status typed read (cannot_certify core fault is cause tells) = told_halts core fault status (is_core_of core typed read is) cause tells
  lacks_halts status typed read (lacks_memory e) = subst (λ (x : Status). Halted (of_file unit file) v v x) (sym e) (inl (no_core unit v))

  pub holds_passes : {text : List ℕ} (c : CertifiedUnit) (typed : IsTypedAs text unit) → IsRead unit → (k : IsCertifiedUnit unit file c) → Passed (of_file unit file) v v (source_of unit (unit_tree c.core) k.certified.given (proofs_tree c.certified.proofs))
  holds_passes c typed read k = core_passes unit file (unit_tree c.core) v (is_core_of (unit_tree c.core) typed read k.core_is) k.certified.given (proofs_tree c.certified.proofs) k.certified.certified

pub no_source : (w : CertifyWords) (v x : StoreView) (status : Status) → Halted (origin w.source) v x status → ReadsProved w v x (Err status)
no_source w v x status h = then_halted (proved w.proof) (origin w.source) v x status h

module _ (w : CertifyWords) (v u x : StoreView) where
  pub unread_proof : (unit : UnitTree) (status : Status) → Passed (origin w.source) v u unit → Halted (proof_file w.proof) u x status → ReadsProved w v x (Err status)
  unread_proof unit status p h = passed_halted (proved w.proof) (origin w.source) v u x unit status p (then_halted (of_file unit) (proof_file w.proof) u x status h)

  -- the source and its proof file come to what the certifier answers
  pub proved_or_told : (unit : UnitTree) (file : Option (Vec ℕ Global)) (answer : Result CertifiedUnit Status) → IsRead unit → Passed (origin w.source) v u unit → Passed (proof_file w.proof) u x (file_of file) → CertifiesTyped unit (file_of file) answer → ReadsProved w v x answer
  proved_or_told unit file (Ok c) read p q k =
      let typed = (passed_text w.source v u unit p).typed_as in
      let source : CertifiedSource = source_of unit (unit_tree c.core) k.certified.given (proofs_tree c.certified.proofs) in
      record {
        source = source;
        passed = then_passed (proved w.proof) (origin w.source) v u x unit source p (then_passed (of_file unit) (proof_file w.proof) u x x (file_of file) source q (holds_passes unit (file_of file) x c typed read k));
        holds = record { unit = k.unit_is; core = refl; proofs = refl; counts = k.certified.counts };
      }
  proved_or_told unit file (Err status) read p q k =
      let typed = (passed_text w.source v u unit p).typed_as in
      passed_halted (proved w.proof) (origin w.source) v u x unit status p (passed_halted (of_file unit) (proof_file w.proof) u x x (file_of file) status q (lacks_halts unit (file_of file) x status typed read k))
