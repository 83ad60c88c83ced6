use Rattle.std.proofs.Common.{◌≤◌, ◌<◌, length}
use Rattle.qs_tasks_run.specs.TasksRun.{System}
use Rattle.qs_tasks_machine.specs.Harts.{RunsTasks}
use Rattle.qs_tasks_machine.proofs.HartLaws.{IsBest}
use Rattle.qs_tasks_machine.proofs.hart.Hart.choice.Given as goal

-- the best of those from a place on
abbrev pub invariant-choose : goal.invariant-choose
invariant-choose l = record {
  within : l.best < length l.self.waiting.items;
  behind : l.i ≤ l.best;
  best : (y : System) → RunsTasks l.self y → IsBest y l.self.waiting.items l.i l.best;
}

abbrev pub decreases-choose : goal.decreases-choose
decreases-choose l = l.i
