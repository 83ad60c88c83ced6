use Rattle.qs_machine.specs.Parts.{Changes}
use Rattle.qs_tasks_machine.proofs.Changes.{storing_some}
use Rattle.qs_tasks_machine.proofs.contexts.store.Given as goal

abbrev pub invariant-loop-i : goal.invariant-loop-i
invariant-loop-i l = Changes l.fn.machine l.machine (storing_some l.from l.i)
