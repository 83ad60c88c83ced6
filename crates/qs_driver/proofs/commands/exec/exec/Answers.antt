use Rattle.qs_driver.specs.commands.Exec.{words_in}
use Rattle.qs_driver.proofs.rooms.Exec.{fresh}
use Rattle.qs_driver.proofs.commands.exec.exec.Goals as goal

pub run_or_refuse-requires : goal.run_or_refuse-requires
run_or_refuse-requires g c = fresh (words_in c.args.order.now) _ _ c.start_source.result c.start_source.ensures

pub returns : goal.returns
returns g c = c.run_or_refuse.ensures _ _ c.start_source.ensures
