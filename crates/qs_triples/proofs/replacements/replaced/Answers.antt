use Rattle.qs_assert.specs.Images.{assertion_image}
use Rattle.qs_assert.specs.Simultaneous.{terms_for}
use Rattle.qs_assert.proofs.ReplacementLaws.{all_replaced}
use Rattle.qs_triples.specs.Replacements.{image}
use Rattle.qs_triples.proofs.replacements.replaced.Goals as goal

pub from_nodes-requires : goal.from_nodes-requires
from_nodes-requires c =
    (assertion_image (terms_for (image c.args.r)) c.args.a.now, all_replaced _ _ _ _ _ c.loop-node-test.false c.nodes-given.ensures c.loop-node.invariant)

pub returns : goal.returns
returns c = c.from_nodes.ensures _ (all_replaced _ c.args.a.now _ _ _ c.loop-node-test.false c.nodes-given.ensures c.loop-node.invariant)
