use Rattle.qs_assert.specs.Trees as trees
use Rattle.qs_assert.proofs.tree.Cond.eq.Goals as goal

pub from_nodes-requires : goal.from_nodes-requires
from_nodes-requires c = (trees.eq c.args.t.now c.args.u.now, c.in_ok-nodes.ensures)

pub returns : goal.returns
returns c = c.from_nodes.ensures (trees.eq c.args.t.now c.args.u.now) c.in_ok-nodes.ensures
