use Rattle.qs_tasks_machine.specs.Harts.{HasRoom, RunsSome, left}
use Rattle.qs_tasks_machine.proofs.HartLaws.{SettlesAs}
use Rattle.qs_tasks_machine.proofs.hart.Hart.settle.Given as goal

abbrev pub invariant-settle : goal.invariant-settle
invariant-settle l = record {
  tasks : RunsSome l.self;
  room : HasRoom l.self 0;
  settles : SettlesAs l.fn.self l.self;
}

abbrev pub decreases-settle : goal.decreases-settle
decreases-settle l = left l.self
