use Rattle.qs_driver_session.proofs.SourceLaws.{starts_there, token_is_there}
use Rattle.qs_driver_session.proofs.source.node_place.Goals as goal

pub bounds-tokens-token_of : goal.bounds-tokens-token_of
bounds-tokens-token_of c = token_is_there _ _ _ _ _ c.requires.reads c.token_of.ensures

pub returns : goal.returns
returns c = starts_there _ _ _ _ _ _ _ c.token_of.ensures (token_is_there _ _ _ _ _ c.requires.reads c.token_of.ensures) c.place.ensures
