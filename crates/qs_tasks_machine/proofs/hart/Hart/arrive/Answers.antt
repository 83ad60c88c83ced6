use Rattle.std.proofs.Common.{sym, ◌∙◌}
use Rattle.qs_tasks_machine.proofs.HartLaws.{arrives}
use Rattle.qs_tasks_machine.proofs.hart.Hart.arrive.Goals as goal

pub returns-then-comes_first-clause-acts : goal.returns-then-comes_first-clause-acts
returns-then-comes_first-clause-acts c = λ y puts r.
    arrives y c.args.self.now r c.args.task puts c.begin.new.self c.begin.result (sym c.if-comes_first.true ∙ c.comes_first.ensures y r) (c.begin.ensures.acts y puts r)
