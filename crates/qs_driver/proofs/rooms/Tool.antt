-- A row for each command, and what is promised of a call.
use Rattle.std.proofs.Common.{◌≡◌, ◌≢◌, ◌⊎◌, ◌∙◌, ◌<◌, Option, Some, None, sym, subst, inl, inr}
use Rattle.qs_ports.specs.StoreView.{StoreView}
use Rattle.qs_ports.specs.SinkView.{SinkView}
use Rattle.qs_cli.specs.Commands.{Command, Build, Check, Bound, Calls, Derive, Outline, Run, Exec, Sample, Elf, Unelf}
use Rattle.qs_driver_session.specs.Names.{no_names}
use Rattle.qs_driver_session.specs.Faults.{status_line}
use Rattle.qs_driver_steps.specs.Devices.{DevicesView, streams_of, views_of}
use Rattle.qs_driver_steps.specs.Pieces.{AreCutShort}
use Rattle.qs_driver_session.specs.Due.{Due, refusal, IsWritten, EndsWith}
use Rattle.qs_driver_session.specs.Task.{Task}
use Rattle.qs_driver_session.specs.Task as tasks
use Rattle.qs_driver_session.specs.Promises.{LacksMemory, NoneFailed, SaysStoreFailed}
use Rattle.qs_driver_session.specs.Promises as task_promises
use Rattle.qs_driver_session.specs.Starting.{RunWords}
use Rattle.qs_driver_session.specs.commands.Run as run
use Rattle.qs_driver_session.specs.commands.Usage.{none}
use Rattle.qs_driver_session.specs.declared.status.Status.{Status}
use Rattle.qs_driver_session.specs.declared.status.Status.TheVariants.{SinkFailed, NoMemory}
use Rattle.qs_driver_session.proofs.PieceLaws.{HasSameFaults, all_same, short_rose, log_last}
use Rattle.qs_driver_session.proofs.rooms.Follows.{Follows, not_risen, not_untouched, untouched}
use Rattle.qs_driver_session.proofs.rooms.Usage.{usage_good}
use Rattle.qs_driver_session.proofs.rooms.Run.{run_good}
use Rattle.qs_driver_steps.specs.Promises as steps
use Rattle.qs_driver_steps.proofs.Follows.{promised as steps_promised, promised_without_memory}
use Rattle.qs_driver_elf.proofs.ElfSteps.{elf_good}
use Rattle.qs_driver_elf.proofs.UnelfSteps.{unelf_good}
use Rattle.qs_driver_calls.proofs.CallsSteps.{calls_good}
use Rattle.qs_driver.specs.Asked.{Asked, by_steps, by_task, Answers, Promises}
use Rattle.qs_driver.specs.Certified.{CertifyWords}
use Rattle.qs_driver.specs.Tool.{task_of}
use Rattle.qs_driver.specs.commands.Check as check
use Rattle.qs_driver.specs.commands.Outline as outline
use Rattle.qs_driver.specs.commands.Outline.{OutlineWords}
use Rattle.qs_driver.proofs.rooms.BuildFollows.{build_follows}
use Rattle.qs_driver.proofs.rooms.BoundFollows.{bound_follows}
use Rattle.qs_driver.proofs.rooms.ExecFollows.{exec_follows}
use Rattle.qs_driver.proofs.rooms.Check.{check_good}
use Rattle.qs_driver.proofs.rooms.DeriveFollows.{derive_follows}
use Rattle.qs_driver.proofs.rooms.Outline.{outline_good}
use Rattle.qs_driver.proofs.rooms.SampleFollows.{sample_follows}

-- ---- the promises of a command that has a task

no_cut : (v w : DevicesView) (due : Due) → NoneFailed v w → AreCutShort due.pieces (streams_of v) (streams_of w) → ⊥
no_cut v w due n c = elim (short_rose due.pieces (streams_of v) (streams_of w) c) [
  | inl r ↦ n.out r
  | inr r ↦ n.log r
]

-- where no stream failed, the status is the due one
is_due : (v w : DevicesView) (due : Due) (result : Status) → NoneFailed v w → IsWritten due (streams_of v) (streams_of w) result → result ≡ due.status
is_due v w due result n (inl (e, h)) = e
is_due v w due result n (inr (e, h)) = absurd (no_cut v w due n h)

accepts : (t : Task) (v w : DevicesView) (result : Status) → Follows t → tasks.Answers t v w result → NoneFailed v w → t.Accepts v.store result ⊎ (result ≡ NoMemory)
accepts t v w result f a n =
    let e : result ≡ a.due.status = is_due v w a.due result n a.written in
    let P : Status → Type 0 = λ s. t.Accepts v.store s ⊎ (s ≡ NoMemory) in
    subst P (sym e) (f.accepts v.store w.store a.due n.store a.is_due)

refuses : (t : Task) (v w : DevicesView) (result : Status) → Follows t → tasks.Answers t v w result → NoneFailed v w → result ≢ NoMemory → t.Refuses v.store result
refuses t v w result f a n m =
    let e : result ≡ a.due.status = is_due v w a.due result n a.written in
    let P : Status → Type 0 = λ s. t.Refuses v.store s in
    subst P (sym e) (f.refuses v.store w.store a.due n.store (λ x. m (e ∙ x)) a.is_due)

store_shown : (v w : DevicesView) (due : Due) (result : Status) → SaysStoreFailed due.status → IsWritten due (streams_of v) (streams_of w) result → SaysStoreFailed result
store_shown v w due result s (inl (e, h)) = subst SaysStoreFailed (sym e) s
store_shown v w due result s (inr (e, h)) = inr e

out_shown : (v w : DevicesView) (due : Due) (result : Status) → IsWritten due (streams_of v) (streams_of w) result → v.out.faults < w.out.faults → result ≡ SinkFailed
out_shown v w due result (inl (e, h)) r = let same : HasSameFaults (streams_of v) (streams_of w) = all_same due.pieces (streams_of v) (streams_of w) h in absurd (not_risen v.out.faults w.out.faults same.out r)
out_shown v w due result (inr (e, h)) r = e

log_shown : (v w : DevicesView) (due : Due) (result : Status) → IsWritten due (streams_of v) (streams_of w) result → v.log.faults < w.log.faults → result ≡ SinkFailed
log_shown v w due result (inl (e, h)) r = let same : HasSameFaults (streams_of v) (streams_of w) = all_same due.pieces (streams_of v) (streams_of w) h in absurd (not_risen v.log.faults w.log.faults same.log r)
log_shown v w due result (inr (e, h)) r = e

of_task : (t : Task) → Follows t → (v w : DevicesView) (result : Status) → tasks.Answers t v w result → task_promises.Promises t v w result
of_task t f v w result a = record {
  answers = inl a;
  accepts = accepts t v w result f a;
  refuses = refuses t v w result f a;
  shows = record {
    store = λ r. store_shown v w a.due result (f.shows v.store w.store a.due r a.is_due) a.written;
    out = out_shown v w a.due result a.written;
    log = log_shown v w a.due result a.written;
  };
}

-- ---- the words of a command in steps, as the code hands them on

pub same_outline : (held said : OutlineWords) → held ≡ said → (v w : DevicesView) (result : Status) → steps.Answers (outline.order_of held) v w result → steps.Answers (outline.order_of said) v w result
same_outline held said e v w result a = subst (λ (o : OutlineWords). steps.Answers (outline.order_of o) v w result) e a

pub same_check : (held said : CertifyWords) → held ≡ said → (v w : DevicesView) (result : Status) → steps.Answers (check.order_of held) v w result → steps.Answers (check.order_of said) v w result
same_check held said e v w result a = subst (λ (c : CertifyWords). steps.Answers (check.order_of c) v w result) e a

pub same_run : (held said : RunWords) → held ≡ said → (v w : DevicesView) (result : Status) → steps.Answers (run.order_of held) v w result → steps.Answers (run.order_of said) v w result
same_run held said e v w result a = subst (λ (r : RunWords). steps.Answers (run.order_of r) v w result) e a

-- ---- the rows

pub promised : (command : Option Command) (v w : DevicesView) (result : Status) → Answers (task_of command) v w result → Promises (task_of command) v w result
promised None v w result a = steps_promised none usage_good v w result a
promised (Some (Build source proof out)) v w result a = of_task _ (build_follows _) v w result a
promised (Some (Check source proof)) v w result a = steps_promised _ (check_good _) v w result a
promised (Some (Bound source proof args)) v w result a = of_task _ (bound_follows _) v w result a
promised (Some (Calls words)) v w result a = steps_promised _ (calls_good words) v w result a
promised (Some (Derive source out)) v w result a = of_task _ (derive_follows _) v w result a
promised (Some (Outline source)) v w result a = steps_promised _ (outline_good _) v w result a
promised (Some (Run image stack args input steps)) v w result a = steps_promised _ (run_good _) v w result a
promised (Some (Exec source proof args input steps)) v w result a = of_task _ (exec_follows _) v w result a
promised (Some (Sample count out)) v w result a = of_task _ (sample_follows _) v w result a
promised (Some (Elf words)) v w result a = steps_promised _ (elf_good words) v w result a
promised (Some (Unelf words)) v w result a = steps_promised _ (unelf_good words) v w result a

-- ---- no memory was found for the words

pub lacks : (s : StoreView) (o v w : SinkView) (result : Status) → EndsWith (status_line no_names NoMemory) NoMemory v w result → LacksMemory (views_of s o v) (views_of s o w) result
lacks s o v w result h = record { untouched = untouched s; written = log_last _ _ o v w result h }

pub lacks_promised : (asked : Asked) (v w : DevicesView) (result : Status) → LacksMemory v w result → Promises asked v w result
lacks_promised (by_steps o) v w result l = promised_without_memory o v w result (record { untouched = l.untouched; written = l.written })
lacks_promised (by_task t) v w result l =
    let due : Due = refusal no_names NoMemory in
    record {
      answers = inr l;
      accepts = λ n. inr (is_due v w due result n l.written);
      refuses = λ n m. absurd (m (is_due v w due result n l.written));
      shows = record {
        store = λ r. absurd (not_untouched v.store w.store l.untouched r);
        out = out_shown v w due result l.written;
        log = log_shown v w due result l.written;
      };
    }
