use Rattle.qs_driver_session.proofs.PieceLaws.{ends_with}
use Rattle.qs_driver.specs.commands.Bound.{words_in}
use Rattle.qs_driver.proofs.rooms.Bound.{bound_put, fault_put}
use Rattle.qs_driver.proofs.commands.bound.report.Goals as goal

pub returns-in-Ok : goal.returns-in-Ok
returns-in-Ok g c = rw c.in-Ok.is (bound_put (words_in c.args.order.now) c.in-Ok.made _ _ _ _ (rw c.status_after.ensures (ends_with _ _ _ _ _ c.put_bounded.ensures)))

pub returns-in-Err : goal.returns-in-Err
returns-in-Err g c = rw c.in-Err.is (fault_put (words_in c.args.order.now) c.in-Err.status _ _ _ _ (rw c.names_of.ensures at c.refuse.ensures))
