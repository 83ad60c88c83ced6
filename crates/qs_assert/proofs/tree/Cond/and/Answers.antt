use Rattle.qs_assert.specs.Trees as trees
use Rattle.qs_assert.proofs.NodeListLaws.{and_made}
use Rattle.qs_assert.proofs.tree.Cond.and.Goals as goal

pub from_nodes-requires : goal.from_nodes-requires
from_nodes-requires c = (trees.and (trees.conds_of c.args.parts.now), and_made _ _ c.in_ok-nodes.ensures)

pub returns : goal.returns
returns c = c.from_nodes.ensures (trees.and (trees.conds_of c.args.parts.now)) (and_made _ _ c.in_ok-nodes.ensures)
