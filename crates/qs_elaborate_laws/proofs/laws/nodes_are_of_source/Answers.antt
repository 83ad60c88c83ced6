use Rattle.qs_elaborate_laws.proofs.CountedUnits.{nodes_are_of_source}
use Rattle.qs_elaborate_laws.proofs.laws.nodes_are_of_source.Goals as goal

pub returns : goal.returns
returns c = nodes_are_of_source
