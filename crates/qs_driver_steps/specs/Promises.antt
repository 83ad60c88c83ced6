-- What is promised of every call of a command.
use Rattle.std.specs.Prelude.{◌≡◌, ◌≢◌, ◌⊎◌, ◌<◌, IsTrue}
use Rattle.qs_ports.specs.Causes.{Rose}
use Rattle.qs_ports.specs.SinkView.{SinkView}
use Rattle.qs_ports.specs.StoreView.{StoreView, Files}
use Rattle.qs_driver_steps.specs.Devices.{DevicesView, DevicesLeft, streams_of, views, views_left, Streams, StreamsLeft, with_streams, stream_views, stream_views_left}
use Rattle.qs_driver_steps.specs.Due.{Due, refusal, IsWritten}
use Rattle.qs_driver_steps.specs.Files.{IsUntouched, StoreHeld}
use Rattle.qs_driver_steps.specs.Runs.{Runs}
use Rattle.qs_driver_steps.specs.Statuses.{Statuses, Names, no_names, IsRefusal}
use Rattle.qs_driver_steps.specs.Steps.{Command, Comes, Stops, Ends, IsRefused, IsOf, end_status}
use Rattle.qs_driver_steps.specs.declared.devices.Devices.{Devices}

-- a command, and the names of its files
pub record Order (S : Statuses) : Type 1 where
  pub command : Command S
  pub names : Names S

-- ---- what was done

-- Something was due to the command, and it was written.
pub record Answers {S : Statuses} (o : Order S) (before after : DevicesView) (result : S.Status)
    : Type 0 where
  pub due : Due S
  pub runs : Runs o.command o.names before.store after.store due
  pub written : IsWritten due (streams_of before) (streams_of after) result

-- No memory was found for the words: nothing was done, and the line that says so was written.
pub record LacksMemory (S : Statuses) (before after : DevicesView) (result : S.Status)
    : Type 0 where
  pub untouched : IsUntouched before.store after.store
  pub written :
      IsWritten (refusal S (no_names S) S.no_memory) (streams_of before) (streams_of after) result

-- ---- what follows

-- no call on the store or on a sink failed, and memory was found
pub record NoneFailed (S : Statuses) (before after : DevicesView) (result : S.Status) : Type 0 where
  pub store : StoreHeld before.store after.store
  pub out : Rose before.out.faults after.out.faults → ⊥
  pub log : Rose before.log.faults after.log.faults → ⊥
  pub memory : result ≢ S.no_memory

-- each refusal comes only where the steps before pass and its step has its cause, and comes wherever this is so
abbrev pub IsExact : {S : Statuses} → Command S → Files → S.Status → Type 0
IsExact {S} c files result =
    (r : S.Status) → IsRefusal S r
    → (result ≡ r → Stops c (S.number r) files r)
    × (Stops c (S.number r) files r → S.seen result ≡ S.seen r)

-- Where no step refuses it ends as what the steps find, and where all pass in one way it ends so.
pub record Accepts {S : Statuses} (c : Command S) (files : Files) (result : S.Status) : Type 0 where
  pub ends : (IsRefused c files → ⊥) → Ends end_status c files result
  pub as_found : (r : S.Status) → Ends end_status c files r → S.seen result ≡ S.seen r

-- the status says that the store failed, or that a stream failed at the line that says so
abbrev pub SaysStoreFailed : (S : Statuses) → S.Status → Type 0
SaysStoreFailed S result =
    ((kind : S.Kind) × (result ≡ S.store_failed kind)) ⊎ (result ≡ S.sink_failed)

-- Where a device failed the status says so. (A count that stands at its last value can't be seen to rise.)
pub record ShowsFailures (S : Statuses) (before after : DevicesView) (result : S.Status)
    : Type 0 where
  pub store : before.store.faults < after.store.faults → SaysStoreFailed S result
  pub out : before.out.faults < after.out.faults → result ≡ S.sink_failed
  pub log : before.log.faults < after.log.faults → result ≡ S.sink_failed

-- The promises of a call whose words ask for this command.
pub record Promises {S : Statuses} (o : Order S) (before after : DevicesView) (result : S.Status)
    : Type 0 where
  -- what was done and written, and why
  pub answers : Answers o before after result ⊎ LacksMemory S before after result
  -- the status is one to which the command comes by the files
  pub comes : NoneFailed S before after result → IsTrue before.store.told
      → Comes end_status o.command before.store.files result
  -- each refusal comes exactly where its cause is
  pub exact : NoneFailed S before after result → IsTrue before.store.told
      → IsExact o.command before.store.files result
  -- what is asked is done where nothing refuses it
  pub accepts : NoneFailed S before after result → IsTrue before.store.told
      → Accepts o.command before.store.files result
  -- no status of another command or step comes
  pub own : NoneFailed S before after result → IsOf end_status o.command result
  -- a device that failed isn't hidden
  pub shows : ShowsFailures S before after result

-- ---- the same of devices that are seen by these views, as the code is handed them and as it leaves them

abbrev pub AnswersOn :
    {S : Statuses} {D O L : Type 0} → (D → StoreView) → (O → SinkView) → (L → SinkView)
    → Devices D O L → DevicesLeft D O L → Order S → S.Status → Type 0
AnswersOn store_view out_view log_view handed left o result =
    Answers o (views store_view out_view log_view handed)
    (views_left store_view out_view log_view left) result

abbrev pub PromiseOn :
    {S : Statuses} {D O L : Type 0} → (D → StoreView) → (O → SinkView) → (L → SinkView)
    → Devices D O L → DevicesLeft D O L → Order S → S.Status → Type 0
PromiseOn store_view out_view log_view handed left o result =
    Promises o (views store_view out_view log_view handed)
    (views_left store_view out_view log_view left) result

-- A command, and what is known of the files once the work on them is done.
pub record Begun (S : Statuses) : Type 1 where
  pub order : Order S
  pub Known : StoreView → StoreView → Type 0

-- whatever the files were, the command is answered on streams that are seen by these views
abbrev pub RunsOn :
    {S : Statuses} {O L : Type 0} → (O → SinkView) → (L → SinkView) → Streams O L
    → StreamsLeft O L → Begun S → S.Status → Type 0
RunsOn out_view log_view handed left begun result =
    (before after : StoreView) → begun.Known before after
    → Answers begun.order (with_streams before (stream_views out_view log_view handed))
    (with_streams after (stream_views_left out_view log_view left)) result
