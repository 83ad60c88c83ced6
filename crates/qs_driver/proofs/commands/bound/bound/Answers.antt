use Rattle.qs_driver.specs.commands.Bound.{words_in}
use Rattle.qs_driver.proofs.rooms.Bound.{bound_answers}
use Rattle.qs_driver.proofs.commands.bound.bound.Goals as goal

pub returns : goal.returns
returns g c = bound_answers (words_in c.args.order.now) _ _ _ _ _ _ c.make-work.result _ (rw c.inputs_of.ensures at c.make-work.ensures) c.report.ensures
