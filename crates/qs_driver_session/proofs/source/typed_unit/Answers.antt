use Rattle.qs_driver_session.proofs.SourceLaws.{typed_as}
use Rattle.qs_driver_session.proofs.source.typed_unit.Goals as goal

pub returns-in-Ok : goal.returns-in-Ok
returns-in-Ok c = typed_as _ _ _ _ c.requires.tokens c.requires.reads c.in-Ok.ensures.unit c.in-Ok.ensures.accepted
