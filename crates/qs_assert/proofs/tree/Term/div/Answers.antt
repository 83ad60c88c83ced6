use Rattle.qs_assert.specs.Trees as trees
use Rattle.qs_assert.proofs.tree.Term.div.Goals as goal

pub from_nodes-requires : goal.from_nodes-requires
from_nodes-requires c = (trees.div c.args.t.now c.args.k, c.in_ok-nodes.ensures)

pub returns : goal.returns
returns c = c.from_nodes.ensures (trees.div c.args.t.now c.args.k) c.in_ok-nodes.ensures
