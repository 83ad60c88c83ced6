use Rattle.qs_driver_session.proofs.SourceLaws.{has_no_main}
use Rattle.qs_driver_session.proofs.source.ill_typed.Goals as goal

pub returns-in-NoMain : goal.returns-in-NoMain
returns-in-NoMain c = has_no_main _ _ _ _ c.in-NoMain.is c.requires.tokens c.requires.reads c.requires.told
