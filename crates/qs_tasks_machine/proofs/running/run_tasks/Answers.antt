use Rattle.std.proofs.Common.{subst}
use Rattle.qs_tasks_run.specs.TasksRun.{Scene, run}
use Rattle.qs_tasks_machine.specs.Reports.{EndsAs, system_of}
use Rattle.qs_tasks_machine.proofs.running.run_tasks.Goals as goal

pub returns : goal.returns
returns g c =
    let y = system_of c.args.image.now c.args.stack c.args.tasks.now in
    subst (λ (s : Scene). EndsAs y (run y c.args.steps s) (g.K.Sink.view c.args.out.now) (g.K.Sink.view c.run-end.new.out) c.run-end.result c.run-end.new.self.returned.items) c.in_ok-hart.ensures.start
    (c.run-end.ensures y c.in_ok-hart.ensures.tasks)
