use Rattle.qs_driver_session.proofs.PieceLaws.{ends_with}
use Rattle.qs_driver_session.proofs.due.refuse.Goals as goal

pub returns : goal.returns
returns g c = rw c.status_after.ensures (ends_with _ _ _ _ _ c.put_status-written.ensures)
