use Rattle.qs_isolation.proofs.TaskReach.{tasks_run_alone}
use Rattle.qs_isolation.proofs.laws.tasks_run_alone.Goals as goal

pub returns : goal.returns
returns c = tasks_run_alone
