use Rattle.qs_triples.proofs.ListLaws.{all_listed}
use Rattle.qs_triples.proofs.mentions.variables.Goals as goal

pub returns : goal.returns
returns c = all_listed c.args.a.now c.nodes-nodes.result.now c.loop-node.xs.items c.loop-node.node-index c.loop-node-test.false c.nodes-nodes.ensures c.loop-node.invariant
