use Rattle.qs_driver_session.specs.Names.{names_in}
use Rattle.qs_driver_session.proofs.CountLaws.{count_put, fault_put}
use Rattle.qs_driver_session.proofs.PieceLaws.{ends_with}
use Rattle.qs_driver_session.proofs.counts.report_count.Goals as goal

pub returns-in-Ok : goal.returns-in-Ok
returns-in-Ok g c = rw c.in-Ok.is (count_put (names_in c.args.names.now) c.in-Ok.count _ _ _ _ (rw c.status_after.ensures (ends_with _ _ _ _ _ c.put_count.ensures)))

pub returns-in-Err : goal.returns-in-Err
returns-in-Err g c = rw c.in-Err.is (fault_put (names_in c.args.names.now) c.in-Err.status _ _ _ _ c.refuse.ensures)
