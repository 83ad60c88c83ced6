-- What follows of a task from what is due to it.
use Rattle.std.proofs.Common.{◌≡◌, ◌≢◌, ◌⊎◌, ℕ, ◌<◌, List, refl, arith, inl}
use Rattle.qs_ports.specs.StoreView.{StoreView}
use Rattle.qs_driver_session.specs.Due.{Due}
use Rattle.qs_driver_steps.specs.Files.{IsUntouched}
use Rattle.qs_driver_session.specs.Files.{CannotRead}
use Rattle.qs_driver_session.specs.Files as files
use Rattle.qs_driver_session.specs.Source.{LacksSource}
use Rattle.qs_driver_session.specs.Source as source
use Rattle.qs_driver_session.specs.Task.{Task}
use Rattle.qs_driver_steps.specs.Files.{StoreHeld}
use Rattle.qs_driver_session.specs.Promises.{SaysStoreFailed}
use Rattle.qs_driver_session.specs.declared.status.Status.{Status}
use Rattle.qs_driver_session.specs.declared.status.Status.TheVariants.{NoMemory}
use Rattle.qs_driver_session.specs.declared.status.FileKind.{FileKind}

-- A command shows these three of its task.
pub record Follows (t : Task) : Type 0 where
  pub accepts : (v w : StoreView) (due : Due) → StoreHeld v w → t.IsDue v w due → t.Accepts v due.status ⊎ (due.status ≡ NoMemory)
  pub refuses : (v w : StoreView) (due : Due) → StoreHeld v w → due.status ≢ NoMemory → t.IsDue v w due → t.Refuses v due.status
  pub shows : (v w : StoreView) (due : Due) → v.faults < w.faults → t.IsDue v w due → SaysStoreFailed due.status

pub not_risen : (a b : ℕ) → b ≡ a → a < b → ⊥
not_risen a b e h = omega arith

pub untouched : (v : StoreView) → IsUntouched v v
untouched v = record {
  only_reads = record { keeps = record { was_told = λ t. t; files = λ t n. refl; tells = λ t h. (t, omega arith) }; writing = refl };
  counts = record { faults = refl; misses = refl };
}

pub not_untouched : (v w : StoreView) → IsUntouched v w → v.faults < w.faults → ⊥
not_untouched v w u r = not_risen _ _ u.counts.faults r

-- a failure while a file was read
pub unread_shows : (v w : StoreView) (name : List ℕ) (kind : FileKind) (limit : ℕ) (status : Status) → CannotRead v w name kind limit status → v.faults < w.faults → SaysStoreFailed status
unread_shows v w name kind limit status (files.missing m e) r = absurd (not_risen _ _ m.missed.faults r)
unread_shows v w name kind limit status (files.unreadable f e) r = inl (kind, e)
unread_shows v w name kind limit status (files.too_long l e) r = absurd (not_untouched v w l.untouched r)
unread_shows v w name kind limit status (files.no_memory u e) r = absurd (not_untouched v w u r)

-- a failure while a source was read
pub source_shows : (v w : StoreView) (name : List ℕ) (status : Status) → LacksSource v w name status → v.faults < w.faults → SaysStoreFailed status
source_shows v w name status (source.unread u) r = unread_shows v w name _ _ status u r
source_shows v w name status (source.lex_fault fault pos u f e) r = absurd (not_untouched v w u r)
source_shows v w name status (source.syntax_fault fault place u f e) r = absurd (not_untouched v w u r)
source_shows v w name status (source.type_fault fault place u f e) r = absurd (not_untouched v w u r)
source_shows v w name status (source.no_memory u e) r = absurd (not_untouched v w u r)
