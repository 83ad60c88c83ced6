use Rattle.qs_assert.specs.Trees as trees
use Rattle.qs_assert.proofs.tree.Assertion.cost.Goals as goal

pub from_nodes-requires : goal.from_nodes-requires
from_nodes-requires c = (trees.cost c.args.f.0, c.in_ok-nodes.ensures)

pub returns : goal.returns
returns c = c.from_nodes.ensures (trees.cost c.args.f.0) c.in_ok-nodes.ensures
