use Rattle.std.proofs.Common.{◌≡◌, ℕ, ◌<◌, length, slice_index}
use Rattle.qs_tasks_run.specs.TasksRun.{entry_of}
use Rattle.qs_tasks_machine.specs.Reports.{system_of}
use Rattle.qs_tasks_machine.proofs.starting.entries.Given as goal

abbrev pub invariant-loop-task : goal.invariant-loop-task
invariant-loop-task l = record {
  each : length l.entries.items ≡ l.task-index;
  entry : (k : ℕ) → k < l.task-index → slice_index l.entries.items k ≡ entry_of (system_of l.image 0 l.tasks) k;
}
