-- What is promised of every call of the tool.
use Rattle.std.specs.Prelude.{◌≡◌, ◌≢◌, ◌⊎◌, ◌<◌}
use Rattle.qs_ports.specs.Causes.{Rose}
use Rattle.qs_ports.specs.SinkView.{SinkView}
use Rattle.qs_ports.specs.StoreView.{StoreView}
use Rattle.qs_driver_steps.specs.Files.{IsUntouched, StoreHeld}
use Rattle.qs_driver_session.specs.Names.{no_names}
use Rattle.qs_driver_steps.specs.Devices.{DevicesView, DevicesLeft, streams_of, views, views_left}
use Rattle.qs_driver_session.specs.Due.{refusal, IsWritten}
use Rattle.qs_driver_session.specs.Task.{Task, Answers}
use Rattle.qs_driver_steps.specs.declared.devices.Devices.{Devices}
use Rattle.qs_driver_session.specs.declared.status.Status.{Status}
use Rattle.qs_driver_session.specs.declared.status.Status.TheVariants.{StoreFailed, SinkFailed, NoMemory}
use Rattle.qs_driver_session.specs.declared.status.FileKind.{FileKind}

-- No memory was found for the words: nothing was done, and the line that says so was written.
pub record LacksMemory (before after : DevicesView) (result : Status) : Type 0 where
  pub untouched : IsUntouched before.store after.store
  pub written : IsWritten (refusal no_names NoMemory) (streams_of before) (streams_of after) result

-- the same of devices that are seen by these views, as the code is handed them and as it leaves them
abbrev pub LacksMemoryOn :
    {S O L : Type 0} → (S → StoreView) → (O → SinkView) → (L → SinkView) → Devices S O L
    → DevicesLeft S O L → Status → Type 0
LacksMemoryOn store_view out_view log_view handed left result =
    LacksMemory (views store_view out_view log_view handed)
    (views_left store_view out_view log_view left) result

-- no call on the store or on a sink failed
pub record NoneFailed (before after : DevicesView) : Type 0 where
  pub store : StoreHeld before.store after.store
  pub out : Rose before.out.faults after.out.faults → ⊥
  pub log : Rose before.log.faults after.log.faults → ⊥

-- the status says that the store failed, or that a stream failed at the line that says so
abbrev pub SaysStoreFailed : Status → Type 0
SaysStoreFailed result = ((kind : FileKind) × (result ≡ StoreFailed kind)) ⊎ (result ≡ SinkFailed)

-- Where a device failed the status says so. (A count that stands at its last value can't be seen to rise.)
pub record ShowsFailures (before after : DevicesView) (result : Status) : Type 0 where
  pub store : before.store.faults < after.store.faults → SaysStoreFailed result
  pub out : before.out.faults < after.out.faults → result ≡ SinkFailed
  pub log : before.log.faults < after.log.faults → result ≡ SinkFailed

-- The promises of a call whose words ask for this task.
pub record Promises (task : Task) (before after : DevicesView) (result : Status) : Type 0 where
  -- what was done and written, and why
  pub answers : Answers task before after result ⊎ LacksMemory before after result
  -- what is asked is done where it can be, unless memory ran out
  pub accepts : NoneFailed before after → task.Accepts before.store result ⊎ (result ≡ NoMemory)
  -- each refusal comes exactly where its cause is
  pub refuses : NoneFailed before after → result ≢ NoMemory → task.Refuses before.store result
  -- a device that failed isn't hidden
  pub shows : ShowsFailures before after result

-- the same of devices that are seen by these views, as the code is handed them and as it leaves them
abbrev pub PromiseOn :
    {S O L : Type 0} → (S → StoreView) → (O → SinkView) → (L → SinkView) → Devices S O L
    → DevicesLeft S O L → Task → Status → Type 0
PromiseOn store_view out_view log_view handed left task result =
    Promises task (views store_view out_view log_view handed)
    (views_left store_view out_view log_view left) result
