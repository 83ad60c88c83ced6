use Rattle.qs_assert.specs.Trees as trees
use Rattle.qs_assert.proofs.NodeListLaws.{greatest_made}
use Rattle.qs_assert.proofs.tree.Assertion.greatest.Goals as goal

pub from_nodes-requires : goal.from_nodes-requires
from_nodes-requires c = (trees.greatest (trees.assertions_of c.args.parts.now), greatest_made _ _ c.in_ok-nodes.ensures)

pub returns : goal.returns
returns c = c.from_nodes.ensures (trees.greatest (trees.assertions_of c.args.parts.now)) (greatest_made _ _ c.in_ok-nodes.ensures)
