use Rattle.qs_entail.specs.Faults.{unfolded}
use Rattle.qs_entail.proofs.PlacingLaws.{placed_all}
use Rattle.qs_entail.proofs.unfolding.unfolded.Goals as goal

pub from_nodes-requires : goal.from_nodes-requires
from_nodes-requires c =
    (unfolded c.args.name.now c.args.body.now c.args.a.now, placed_all _ _ _ _ _ _ c.loop-node-test.false c.nodes-list.ensures c.loop-node.invariant)

pub returns : goal.returns
returns c = c.from_nodes.ensures _ (placed_all _ _ c.args.a.now _ _ _ c.loop-node-test.false c.nodes-list.ensures c.loop-node.invariant)
