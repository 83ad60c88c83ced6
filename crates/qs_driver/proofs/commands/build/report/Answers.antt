use Rattle.std.proofs.Common.{ap}
use Rattle.qs_image.specs.Image.{Image}
use Rattle.qs_driver_session.proofs.PieceLaws.{ends_with}
use Rattle.qs_driver.specs.commands.Build.{words_in}
use Rattle.qs_driver.proofs.rooms.Build.{costs_put, fault_put}
use Rattle.qs_driver.proofs.commands.build.report.Goals as goal

pub returns-in-Ok : goal.returns-in-Ok
returns-in-Ok g c = rw c.in-Ok.is (costs_put (words_in c.args.order.now) c.in-Ok.image _ _ _ _ (rw c.status_after.ensures (ends_with _ _ _ _ _ (rw (← ap (λ (i : Image). i.functions) c.image.view_is) (rw c.deref.ensures.value at c.put_costs.ensures)))))

pub returns-in-Err : goal.returns-in-Err
returns-in-Err g c = rw c.in-Err.is (fault_put (words_in c.args.order.now) c.in-Err.status _ _ _ _ (rw c.names_of.ensures at c.refuse.ensures))
