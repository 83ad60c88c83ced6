use Rattle.qs_driver.specs.Certified.{words_in}
use Rattle.qs_driver.proofs.rooms.Check.{check_answers}
use Rattle.qs_driver.proofs.commands.check.check.Goals as goal

pub returns : goal.returns
returns g c = check_answers (words_in c.args.order.now) _ _ _ _ _ _ c.check_entries-work.result _ c.check_entries-work.ensures (rw c.names_of.ensures at c.report_count.ensures)
