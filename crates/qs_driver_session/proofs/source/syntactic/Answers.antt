use Rattle.std.proofs.Common.{sym}
use Rattle.qs_driver_session.proofs.SourceLaws.{is_syntactic, within_tokens}
use Rattle.qs_driver_session.proofs.source.syntactic.Goals as goal

pub token_place-requires-clause-within : goal.token_place-requires-clause-within
token_place-requires-clause-within c = within_tokens _ _ _ _ c.requires.says (sym c.in-Some.ensures)

pub returns-in-Some : goal.returns-in-Some
returns-in-Some c = is_syntactic _ _ _ _ _ c.requires.tokens c.requires.says (sym c.in-Some.ensures) c.token_place.ensures
