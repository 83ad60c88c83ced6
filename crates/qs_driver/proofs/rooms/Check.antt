-- `check` is a good command, and what its code shows.
use Rattle.std.proofs.Common.{◌≡◌, ℕ, ◌+◌, ◌-◌, length, Result, Ok, Err, refl, ap, ◌∙◌, arith}
use Rattle.qs_ports.specs.StoreView.{StoreView}
use Rattle.qs_ports.specs.SinkView.{SinkView}
use Rattle.qs_report.specs.declared.fault_texts.Count.{Count}
use Rattle.qs_report.specs.declared.fault_texts.Count.TheVariants.{Checked}
use Rattle.qs_driver_steps.specs.Devices.{streams, views_of}
use Rattle.qs_driver_steps.specs.Promises.{Answers}
use Rattle.qs_driver_steps.specs.Runs.{Halted, finished, lacks_memory}
use Rattle.qs_driver_steps.specs.Steps.{end_status}
use Rattle.qs_driver_steps.proofs.Laws.{IsFrom, IsGood}
use Rattle.qs_driver_steps.proofs.StoreLaws.{untouched}
use Rattle.qs_driver_steps.proofs.ThenLaws.{then_lawful, then_from, then_halted, then_passed, is_refused, is_ended}
use Rattle.qs_driver_session.specs.Counts.{counted, counted_or_refused}
use Rattle.qs_driver_session.specs.Due.{refusal, IsWritten}
use Rattle.qs_driver_session.specs.Names.{file_name}
use Rattle.qs_driver_session.specs.declared.status.Status.{Status}
use Rattle.qs_driver_session.specs.declared.status.Status.TheVariants.{NoMemory}
use Rattle.qs_driver.specs.Certified.{CertifyWords, CertifiedSource}
use Rattle.qs_driver.specs.Proved.{certified, HasProved}
use Rattle.qs_driver.specs.commands.Check.{names_of, check_end, checked, check, order_of, Checks}
use Rattle.qs_driver.specs.declared.certified.CertifiedUnit.{CertifiedUnit}
use Rattle.qs_driver.proofs.ProvedLaws.{certified_single, certified_from_first}

-- ---- it is good

pub check_ordered : (s : CertifiedSource) → IsFrom end_status (checked s) 13
check_ordered s = (refl, omega arith)

pub check_good : (w : CertifyWords) → IsGood (check w)
check_good w = record {
  lawful = then_lawful end_status checked (certified w) (certified_single w) (λ s. tt);
  ordered = then_from end_status checked (certified w) 1 13 (omega arith) (certified_from_first w) check_ordered;
}

-- ---- what the code shows

-- the counts that the code holds are those of the proofs
same_counts : (given added all entries : ℕ) → given ≡ entries → given + added ≡ all → Checked given added ≡ Checked entries (all - entries)
same_counts given added all entries e f =
    let rest : added ≡ all - entries = omega (arith, e, f) in
    ap (λ n. Checked n added) e ∙ ap (Checked entries) rest

module _ (w : CertifyWords) (v u : StoreView) where
  pub not_certified : (status : Status) → Halted (certified w) v u status → Checks w v u (Err status)
  not_certified status h = is_refused (check w) (file_name (names_of w)) v u status (then_halted checked (certified w) v u status h)

  -- want of memory is told where it is met on the way to linear code
  pub not_lowered : (c : CertifiedUnit) → HasProved w v u c → Checks w v u (Err NoMemory)
  not_lowered c h =
      is_ended (check w) (file_name (names_of w)) v u u (check_end h.source) (refusal (names_of w) NoMemory)
      (then_passed checked (certified w) v u u h.source (check_end h.source) h.passed (refl, refl))
      (lacks_memory (untouched u) refl)

  pub was_checked : (c : CertifiedUnit) → HasProved w v u c → Checks w v u (Ok (Checked c.certified.given c.certified.added))
  was_checked c h =
      let s : CertifiedSource = h.source in
      is_ended (check w) (file_name (names_of w)) v u u (check_end s) (counted (Checked c.certified.given c.certified.added))
      (then_passed checked (certified w) v u u s (check_end s) h.passed (refl, refl))
      (finished (untouched u) (ap counted (same_counts _ _ (length s.proofs.functions) (length s.given.functions) h.holds.counts.given_are (h.holds.counts.all_are ∙ ap (λ p. length p.functions) h.holds.proofs))))

pub check_answers : (w : CertifyWords) (s s' : StoreView) (o o' l l' : SinkView) (work : Result Count Status) (result : Status) → Checks w s s' work → IsWritten (counted_or_refused (names_of w) work) (streams o l) (streams o' l') result → Answers (order_of w) (views_of s o l) (views_of s' o' l') result
check_answers w s s' o o' l l' work result runs h = record { due = counted_or_refused (names_of w) work; runs = runs; written = h }
