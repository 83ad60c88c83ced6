-- What follows from what is due to `sample`.
use Rattle.std.proofs.Common.{◌≡◌, ◌≢◌, ◌⊎◌, ◌<◌, ℕ, List, Option, Some, None, ap, subst, sym, inl, inr}
use Rattle.qs_ports.specs.StoreView.{StoreView}
use Rattle.qs_image.specs.Image.{Image}
use Rattle.qs_machine.specs.Run.{Outcome, Exited, Trapped as HasTrapped, Going}
use Rattle.qs_cli.specs.Numbers.{default_steps}
use Rattle.qs_driver_session.specs.Due.{Due}
use Rattle.qs_driver_steps.specs.Files.{StoreHeld}
use Rattle.qs_driver_session.specs.Promises.{SaysStoreFailed}
use Rattle.qs_driver_session.specs.SampleSource.{sample_text}
use Rattle.qs_driver_session.specs.Starting.{status_at}
use Rattle.qs_driver_session.specs.declared.status.Status.{Status}
use Rattle.qs_driver_session.specs.declared.status.Status.TheVariants.{NoMemory}
use Rattle.qs_driver_session.specs.declared.status.FileKind.TheVariants as kinds
use Rattle.qs_driver_session.proofs.rooms.Follows.{Follows, not_risen, not_untouched}
use Rattle.qs_driver.specs.commands.Sample.{SampleWords, outcome, sample, HasWritten, IsDueAt, HasRun, CannotSample, IsDueToSample, Accepts, Refuses, IsOfSample}
use Rattle.qs_driver.specs.commands.Sample as meant

-- ---- how it ends

data SampleEnds (w : SampleWords) (v u : StoreView) (status : Status) : Type 0 where
  ran : (due : Due) (h : HasRun w v u due) → status ≡ status_at default_steps (outcome h.image h.stack) → SampleEnds w v u status
  cannot : CannotSample w v u status → SampleEnds w v u status

is_status_at : (w : SampleWords) (image : Image) (stack : ℕ) (o : Outcome) (due : Due) → IsDueAt w image stack o due → due.status ≡ status_at default_steps o
is_status_at w image stack (Exited output status) due is = ap (λ (d : Due). d.status) is
is_status_at w image stack (HasTrapped cause pc output) due is = ap (λ (d : Due). d.status) is
is_status_at w image stack (Going output) due is = ap (λ (d : Due). d.status) is

sample_ends : (w : SampleWords) (v u : StoreView) (due : Due) → IsDueToSample w v u due → SampleEnds w v u due.status
sample_ends w v u due (meant.ran h) = ran due h (is_status_at w h.image h.stack (outcome h.image h.stack) due h.is_due)
sample_ends w v u due (meant.refused status c is) = let P : Status → Type 0 = λ s. CannotSample w v u s in cannot (subst P (sym (ap (λ (x : Due). x.status) is)) c)

-- ---- what is accepted

accepts : (w : SampleWords) (v u : StoreView) (status : Status) → StoreHeld v u → SampleEnds w v u status → Accepts w v status ⊎ (status ≡ NoMemory)
accepts w v u status n (ran due h is) = inl (record { source = h.source; image = h.image; stack = h.stack; has_stack = h.has_stack; is = is })
accepts w v u status n (cannot (meant.unwritable c e)) = absurd (n c.failed.rose)
accepts w v u status n (cannot (meant.no_memory r e)) = inr e

-- ---- what is refused

own_outcome : (o : Outcome) → IsOfSample (status_at default_steps o)
own_outcome (Exited output status) = meant.done
own_outcome (HasTrapped cause pc output) = meant.trapped cause pc
own_outcome (Going output) = meant.step_limit

refuses : (w : SampleWords) (v u : StoreView) (status : Status) → StoreHeld v u → status ≢ NoMemory → SampleEnds w v u status → Refuses w v status
refuses w v u status n m (ran due h is) = subst IsOfSample (sym is) (own_outcome (outcome h.image h.stack))
refuses w v u status n m (cannot (meant.unwritable c e)) = absurd (n c.failed.rose)
refuses w v u status n m (cannot (meant.no_memory r e)) = absurd (m e)

-- ---- what isn't hidden

-- where the source was written no call failed
not_written : (out : Option (List ℕ)) (text : List ℕ) (v u : StoreView) → HasWritten out text v u → v.faults < u.faults → ⊥
not_written None text v u h r = not_untouched v u h r
not_written (Some name) text v u (stores, counts) r = not_risen _ _ counts.faults r

shows : (w : SampleWords) (v u : StoreView) (due : Due) → v.faults < u.faults → IsDueToSample w v u due → SaysStoreFailed due.status
shows w v u due r (meant.ran h) = absurd (not_written w.out (sample_text w.count) v u h.written r)
shows w v u due r (meant.refused status (meant.unwritable c e) is) = subst SaysStoreFailed (sym (ap (λ (x : Due). x.status) is)) (inl (kinds.Output, e))
shows w v u due r (meant.refused status (meant.no_memory (inl same) e) is) = absurd (not_untouched v u same r)
shows w v u due r (meant.refused status (meant.no_memory (inr h) e) is) = absurd (not_written w.out (sample_text w.count) v u h r)

pub sample_follows : (w : SampleWords) → Follows (sample w)
sample_follows w = record {
  accepts = λ v u due n is. accepts w v u due.status n (sample_ends w v u due is);
  refuses = λ v u due n m is. refuses w v u due.status n m (sample_ends w v u due is);
  shows = λ v u due r is. shows w v u due r is;
}
