use Rattle.std.proofs.Common.{sym}
use Rattle.qs_driver_session.proofs.SourceLaws.{is_lexical}
use Rattle.qs_driver_session.proofs.source.lexical.Goals as goal

pub returns-in-Some : goal.returns-in-Some
returns-in-Some c = is_lexical _ _ _ _ c.requires.says (sym c.in-Some.ensures) c.place.ensures
