use Rattle.qs_driver.specs.commands.Outline.{words_in}
use Rattle.qs_driver.proofs.rooms.Outline.{outline_answers}
use Rattle.qs_driver.proofs.commands.outline.outline.Goals as goal

pub returns : goal.returns
returns g c = outline_answers (words_in c.args.order.now) _ _ _ _ _ _ c.outline_text.result _ c.outline_text.ensures c.report.ensures
