use Rattle.qs_assert.specs.Trees as trees
use Rattle.qs_assert.proofs.NodeListLaws.{total_made}
use Rattle.qs_assert.proofs.tree.Assertion.total.Goals as goal

pub from_nodes-requires : goal.from_nodes-requires
from_nodes-requires c = (trees.total (trees.assertions_of c.args.parts.now), total_made _ _ c.in_ok-nodes.ensures)

pub returns : goal.returns
returns c = c.from_nodes.ensures (trees.total (trees.assertions_of c.args.parts.now)) (total_made _ _ c.in_ok-nodes.ensures)
