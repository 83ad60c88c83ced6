-- What the words of a call ask: a command of steps, or one with a task of its own; and what is promised of the call.
use Rattle.qs_ports.specs.SinkView.{SinkView}
use Rattle.qs_ports.specs.StoreView.{StoreView}
use Rattle.qs_driver_steps.specs.Devices.{DevicesView, DevicesLeft, views, views_left}
use Rattle.qs_driver_steps.specs.Promises as steps
use Rattle.qs_driver_steps.specs.declared.devices.Devices.{Devices}
use Rattle.qs_driver_session.specs.Promises as tasks
use Rattle.qs_driver_session.specs.Statuses.{tool}
use Rattle.qs_driver_session.specs.Task as task
use Rattle.qs_driver_session.specs.declared.status.Status.{Status}

pub data Asked : Type 1 where
  by_steps : steps.Order tool → Asked
  by_task : task.Task → Asked

-- something was due to it, and it was written
abbrev pub Answers : Asked → (before after : DevicesView) → Status → Type 0
Answers (by_steps o) before after result = steps.Answers o before after result
Answers (by_task t) before after result = task.Answers t before after result

-- the promises of a call that asks it
abbrev pub Promises : Asked → (before after : DevicesView) → Status → Type 0
Promises (by_steps o) before after result = steps.Promises o before after result
Promises (by_task t) before after result = tasks.Promises t before after result

-- ---- the same of devices that are seen by these views, as the code is handed them and as it leaves them

abbrev pub AnswersOn :
    {S O L : Type 0} → (S → StoreView) → (O → SinkView) → (L → SinkView) → Devices S O L
    → DevicesLeft S O L → Asked → Status → Type 0
AnswersOn store_view out_view log_view handed left asked result =
    Answers asked (views store_view out_view log_view handed)
    (views_left store_view out_view log_view left) result

abbrev pub PromiseOn :
    {S O L : Type 0} → (S → StoreView) → (O → SinkView) → (L → SinkView) → Devices S O L
    → DevicesLeft S O L → Asked → Status → Type 0
PromiseOn store_view out_view log_view handed left asked result =
    Promises asked (views store_view out_view log_view handed)
    (views_left store_view out_view log_view left) result
