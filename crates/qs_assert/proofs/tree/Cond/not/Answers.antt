use Rattle.qs_assert.specs.Trees as trees
use Rattle.qs_assert.proofs.tree.Cond.not.Goals as goal

pub from_nodes-requires : goal.from_nodes-requires
from_nodes-requires c = (trees.not c.args.part.now, c.in_ok-nodes.ensures)

pub returns : goal.returns
returns c = c.from_nodes.ensures (trees.not c.args.part.now) c.in_ok-nodes.ensures
