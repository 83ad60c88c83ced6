use Rattle.qs_driver.specs.commands.Sample.{words_in}
use Rattle.qs_driver.proofs.rooms.Sample.{sample_answers}
use Rattle.qs_driver.proofs.commands.sample.sample.Goals as goal

pub returns : goal.returns
returns g c = sample_answers (words_in c.args.order.now) _ _ _ _ _ _ c.run_sample.result _ c.run_sample.ensures c.report.ensures
