use Rattle.qs_driver_session.proofs.SourceLaws.{is_ill_typed_at, node_is_there}
use Rattle.qs_driver_session.proofs.source.ill_typed_at.Goals as goal

pub node_place-pos-requires-clause-there : goal.node_place-pos-requires-clause-there
node_place-pos-requires-clause-there c = node_is_there _ _ _ _ _ c.requires.reads c.requires.cause c.requires.names

pub returns : goal.returns
returns c = is_ill_typed_at _ _ _ _ _ _ c.requires.tokens c.requires.reads c.requires.cause c.requires.names c.node_place-pos.ensures
