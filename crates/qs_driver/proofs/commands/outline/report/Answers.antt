use Rattle.qs_driver_session.proofs.PieceLaws.{ends_with}
use Rattle.qs_driver.specs.commands.Outline.{words_in}
use Rattle.qs_driver.proofs.rooms.Outline.{fault_put, text_put}
use Rattle.qs_driver.proofs.commands.outline.report.Goals as goal

pub returns-in-Ok : goal.returns-in-Ok
returns-in-Ok g c = rw c.in-Ok.is (text_put (words_in c.args.order.now) c.in-Ok.text _ _ _ _ (rw c.status_after.ensures (ends_with _ _ _ _ _ (rw c.deref.ensures.value at c.put_all.ensures))))

pub returns-in-Err : goal.returns-in-Err
returns-in-Err g c = rw c.in-Err.is (fault_put (words_in c.args.order.now) c.in-Err.status _ _ _ _ (rw c.names_of.ensures at c.refuse.ensures))
