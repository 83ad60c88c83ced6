use Rattle.qs_assert.specs.Trees as trees
use Rattle.qs_assert.proofs.NodeListLaws.{mul_made}
use Rattle.qs_assert.proofs.tree.Term.mul.Goals as goal

pub from_nodes-requires : goal.from_nodes-requires
from_nodes-requires c = (trees.mul (trees.terms_of c.args.parts.now), mul_made _ _ c.in_ok-nodes.ensures)

pub returns : goal.returns
returns c = c.from_nodes.ensures (trees.mul (trees.terms_of c.args.parts.now)) (mul_made _ _ c.in_ok-nodes.ensures)
