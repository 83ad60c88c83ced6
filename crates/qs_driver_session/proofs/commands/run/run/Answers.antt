use Rattle.qs_driver_session.specs.Starting.{words_in}
use Rattle.qs_driver_session.proofs.rooms.Run.{fresh}
use Rattle.qs_driver_session.proofs.commands.run.run.Goals as goal

pub run_ready-requires : goal.run_ready-requires
run_ready-requires g c = fresh (words_in c.args.order.now) _ _ c.prepare.result c.prepare.ensures

pub returns : goal.returns
returns g c = c.run_ready.ensures _ _ c.prepare.ensures
