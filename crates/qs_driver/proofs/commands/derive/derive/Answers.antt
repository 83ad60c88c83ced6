use Rattle.qs_driver.specs.commands.Derive.{words_in}
use Rattle.qs_driver.proofs.rooms.Derive.{derive_answers}
use Rattle.qs_driver.proofs.commands.derive.derive.Goals as goal

pub returns : goal.returns
returns g c = derive_answers (words_in c.args.order.now) _ _ _ _ _ _ c.derive_proofs-work.result _ c.derive_proofs-work.ensures (rw c.names_of.ensures at c.report_count.ensures)
