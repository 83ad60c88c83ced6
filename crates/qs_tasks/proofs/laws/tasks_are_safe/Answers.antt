use Rattle.qs_tasks.proofs.TasksSafe.{tasks_are_safe}
use Rattle.qs_tasks.proofs.laws.tasks_are_safe.Goals as goal

pub returns : goal.returns
returns c p claims arrivals instructions are may = tasks_are_safe p claims arrivals instructions are may
