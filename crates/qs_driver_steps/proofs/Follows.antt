-- Each good command keeps all promises.
use Rattle.std.proofs.Common.{◌≡◌, ◌≢◌, ◌∙◌, subst, sym, inl, inr, IsTrue}
use Rattle.qs_driver_steps.specs.Devices.{DevicesView, streams_of}
use Rattle.qs_driver_steps.specs.Due.{Due, refusal, IsWritten}
use Rattle.qs_driver_steps.specs.Promises.{Order, Answers, LacksMemory, NoneFailed, SaysStoreFailed, IsExact, Accepts, ShowsFailures, Promises}
use Rattle.qs_driver_steps.specs.Statuses.{Statuses, no_names}
use Rattle.qs_driver_steps.specs.Steps.{Comes, Ends, IsOf, end_status}
use Rattle.qs_driver_steps.proofs.Laws.{IsGood}
use Rattle.qs_driver_steps.proofs.PieceLaws.{status_due, shows_out, shows_log}
use Rattle.qs_driver_steps.proofs.RunsLaws.{run_comes, run_exact, run_own, run_ends, run_accepts, run_shows}
use Rattle.qs_driver_steps.proofs.StoreLaws.{not_risen}

says : {S : Statuses} (due : Due S) (v w : DevicesView) (result : S.Status) → (kind : S.Kind) × (due.status ≡ S.store_failed kind) → IsWritten due (streams_of v) (streams_of w) result → SaysStoreFailed S result
says due v w result (kind, e) (inl (is, h)) = inl (kind, is ∙ e)
says due v w result (kind, e) (inr (is, h)) = inr is

-- ---- of a command that was answered

module _ {S : Statuses} (o : Order S) (good : IsGood o.command) (v w : DevicesView) (result : S.Status) (a : Answers o v w result) where
  is_due : NoneFailed S v w result → result ≡ a.due.status
  is_due n = status_due a.due (streams_of v) (streams_of w) result n.out n.log a.written

  memory : NoneFailed S v w result → a.due.status ≢ S.no_memory
  memory n e = n.memory (is_due n ∙ e)

  exact : NoneFailed S v w result → IsTrue v.store.told → IsExact o.command v.store.files result
  exact n told = subst (λ (x : S.Status). IsExact o.command v.store.files x) (sym (is_due n)) (λ r is. run_exact o.command o.names v.store w.store a.due 1 good.lawful good.ordered told n.store (memory n) a.runs r is)

  comes : NoneFailed S v w result → IsTrue v.store.told → Comes end_status o.command v.store.files result
  comes n told = subst (λ (x : S.Status). Comes end_status o.command v.store.files x) (sym (is_due n)) (run_comes o.command o.names v.store w.store a.due told n.store (memory n) a.runs)

  accepts : NoneFailed S v w result → IsTrue v.store.told → Accepts o.command v.store.files result
  accepts n told = record {
    ends = λ never. subst (λ (x : S.Status). Ends end_status o.command v.store.files x) (sym (is_due n)) (run_ends o.command o.names v.store w.store a.due told n.store (memory n) a.runs never);
    as_found = λ r h. subst (λ (x : S.Status). S.seen x ≡ S.seen r) (sym (is_due n)) (run_accepts o.command o.names v.store w.store a.due good.lawful told n.store (memory n) a.runs r h);
  }

  own : NoneFailed S v w result → IsOf end_status o.command result
  own n = subst (λ (x : S.Status). IsOf end_status o.command x) (sym (is_due n)) (run_own o.command o.names v.store w.store a.due n.store (memory n) a.runs)

  shows : ShowsFailures S v w result
  shows = record {
    store = λ r. says a.due v w result (run_shows o.command o.names v.store w.store a.due r a.runs) a.written;
    out = λ r. shows_out a.due (streams_of v) (streams_of w) result r a.written;
    log = λ r. shows_log a.due (streams_of v) (streams_of w) result r a.written;
  }

  pub promised : Promises o v w result
  promised = record { answers = inl a; comes = comes; exact = exact; accepts = accepts; own = own; shows = shows }

-- ---- of words for which no memory was found

module _ {S : Statuses} (o : Order S) (v w : DevicesView) (result : S.Status) (l : LacksMemory S v w result) where
  wanting : NoneFailed S v w result → ⊥
  wanting n = n.memory (status_due (refusal S (no_names S) S.no_memory) (streams_of v) (streams_of w) result n.out n.log l.written)

  pub promised_without_memory : Promises o v w result
  promised_without_memory = record {
    answers = inr l;
    comes = λ n told. absurd (wanting n);
    exact = λ n told. absurd (wanting n);
    accepts = λ n told. absurd (wanting n);
    own = λ n. absurd (wanting n);
    shows = record {
      store = λ r. absurd (not_risen _ _ l.untouched.counts.faults r);
      out = λ r. shows_out (refusal S (no_names S) S.no_memory) (streams_of v) (streams_of w) result r l.written;
      log = λ r. shows_log (refusal S (no_names S) S.no_memory) (streams_of v) (streams_of w) result r l.written;
    };
  }
