use Rattle.std.proofs.Common.{◌≡◌, drop}
use Rattle.qs_entail.specs.Plain.{all_plain_nodes}
use Rattle.qs_entail.proofs.plain.all_plain_nodes.Given as goal

abbrev pub invariant-loop-node : goal.invariant-loop-node
invariant-loop-node l = all_plain_nodes l.nodes ≡ all_plain_nodes (drop l.node-index l.nodes)
