use Rattle.qs_isolation.proofs.TaskReach.{tasks_stay_in_reach}
use Rattle.qs_isolation.proofs.laws.tasks_stay_in_reach.Goals as goal

pub returns : goal.returns
returns c = tasks_stay_in_reach
