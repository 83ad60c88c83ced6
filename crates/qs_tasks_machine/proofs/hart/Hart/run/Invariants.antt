use Rattle.std.proofs.Common.{◌≡◌}
use Rattle.qs_tasks_run.specs.TasksRun.{System}
use Rattle.qs_tasks_machine.specs.Harts.{HasRoom, RunsSome, RunsTasks}
use Rattle.qs_tasks_machine.proofs.RunLaws.{Ran}
use Rattle.qs_tasks_machine.proofs.hart.Hart.run.Given as goal

abbrev pub invariant-steps : goal.invariant-steps
invariant-steps g l = record {
  tasks : RunsSome l.self;
  room : HasRoom l.self 0;
  time : l.self.time ≡ l.counter;
  ran : (y : System) → RunsTasks l.fn.self y → Ran y l.fn.self l.self l.counter (g.K.Sink.view l.fn.out) (g.K.Sink.view l.out);
}
