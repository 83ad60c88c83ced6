use Rattle.qs_driver_session.proofs.rooms.Usage.{usage_answers}
use Rattle.qs_driver_session.proofs.commands.usage.usage.Goals as goal

pub returns : goal.returns
returns g c = usage_answers _ _ _ _ _ c.refuse.ensures
