use Rattle.qs_driver.specs.commands.Build.{words_in}
use Rattle.qs_driver.proofs.rooms.Build.{build_answers}
use Rattle.qs_driver.proofs.commands.build.build.Goals as goal

pub returns : goal.returns
returns g c = build_answers (words_in c.args.order.now) _ _ _ _ _ _ c.build_file.result _ c.build_file.ensures c.report.ensures
