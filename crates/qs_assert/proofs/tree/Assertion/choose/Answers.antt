use Rattle.qs_assert.specs.Trees as trees
use Rattle.qs_assert.proofs.NodeListLaws.{choose_made}
use Rattle.qs_assert.proofs.tree.Assertion.choose.Goals as goal

pub from_nodes-requires : goal.from_nodes-requires
from_nodes-requires c =
    (trees.choose c.args.c.now c.args.first.now c.args.second.now, choose_made _ _ _ _ _ _ c.in_ok-nodes.ensures c.nodes.ensures c.in_ok-put_nodes.ensures)

pub returns : goal.returns
returns c =
    c.from_nodes.ensures (trees.choose c.args.c.now c.args.first.now c.args.second.now) (choose_made _ _ _ _ _ _ c.in_ok-nodes.ensures c.nodes.ensures c.in_ok-put_nodes.ensures)
