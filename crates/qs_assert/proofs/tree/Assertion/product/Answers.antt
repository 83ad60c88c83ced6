use Rattle.qs_assert.specs.Trees as trees
use Rattle.qs_assert.proofs.NodeListLaws.{product_made}
use Rattle.qs_assert.proofs.tree.Assertion.product.Goals as goal

pub from_nodes-requires : goal.from_nodes-requires
from_nodes-requires c = (trees.product (trees.assertions_of c.args.parts.now), product_made _ _ c.in_ok-nodes.ensures)

pub returns : goal.returns
returns c = c.from_nodes.ensures (trees.product (trees.assertions_of c.args.parts.now)) (product_made _ _ c.in_ok-nodes.ensures)
