use Rattle.qs_driver_session.proofs.PieceLaws.{ends_with}
use Rattle.qs_driver.specs.commands.Sample.{words_in}
use Rattle.qs_driver.proofs.rooms.Sample.{lines_put, fault_put}
use Rattle.qs_driver.proofs.commands.sample.report.Goals as goal

pub returns-in-Ok : goal.returns-in-Ok
returns-in-Ok g c = rw c.in-Ok.is (lines_put (words_in c.args.order.now) c.in-Ok.end _ _ _ _ (rw c.status_after.ensures (ends_with _ _ _ _ _ c.put_counted.ensures)))

pub returns-in-Err : goal.returns-in-Err
returns-in-Err g c = rw c.in-Err.is (fault_put (words_in c.args.order.now) c.in-Err.status _ _ _ _ (rw c.names_of.ensures at c.refuse.ensures))
