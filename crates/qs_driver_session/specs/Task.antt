-- What a command asks of the tool, and when it is answered.
use Rattle.qs_ports.specs.SinkView.{SinkView}
use Rattle.qs_ports.specs.StoreView.{StoreView}
use Rattle.qs_driver_steps.specs.Devices.{DevicesView, DevicesLeft, Streams, StreamsLeft, streams_of, views, views_left, with_streams, stream_views, stream_views_left}
use Rattle.qs_driver_session.specs.Due.{Due, IsWritten}
use Rattle.qs_driver_steps.specs.declared.devices.Devices.{Devices}
use Rattle.qs_driver_session.specs.declared.status.Status.{Status}

-- The files are those of the store before the call and after it.
pub record Task : Type 1 where
  -- what is due, and why
  pub IsDue : StoreView → StoreView → Due → Type 0
  -- what is asked is done where it can be
  pub Accepts : StoreView → Status → Type 0
  -- each refusal comes exactly where its cause is
  pub Refuses : StoreView → Status → Type 0

-- Something was due to the task, and it was written.
pub record Answers (task : Task) (before after : DevicesView) (result : Status) : Type 0 where
  pub due : Due
  pub is_due : task.IsDue before.store after.store due
  pub written : IsWritten due (streams_of before) (streams_of after) result

-- the same of devices that are seen by these views, as a command is handed them and as it leaves them
abbrev pub AnswersOn :
    {S O L : Type 0} → (S → StoreView) → (O → SinkView) → (L → SinkView) → Devices S O L
    → DevicesLeft S O L → Task → Status → Type 0
AnswersOn store_view out_view log_view handed left task result =
    Answers task (views store_view out_view log_view handed)
    (views_left store_view out_view log_view left) result

-- A task, and what is known of the files once the work on them is done.
pub record Begun : Type 1 where
  pub task : Task
  pub Known : StoreView → StoreView → Type 0

-- whatever the files were, the task is answered on streams that are seen by these views
abbrev pub RunsOn :
    {O L : Type 0} → (O → SinkView) → (L → SinkView) → Streams O L → StreamsLeft O L → Begun
    → Status → Type 0
RunsOn out_view log_view handed left begun result =
    (before after : StoreView) → begun.Known before after
    → Answers begun.task (with_streams before (stream_views out_view log_view handed))
    (with_streams after (stream_views_left out_view log_view left)) result
