use Rattle.qs_machine.specs.Parts.{Changes}
use Rattle.qs_tasks_machine.proofs.Changes.{taking_some}
use Rattle.qs_tasks_machine.proofs.contexts.take_back.Given as goal

abbrev pub invariant-loop-r : goal.invariant-loop-r
invariant-loop-r l = Changes l.fn.machine l.machine (taking_some l.from l.r)
