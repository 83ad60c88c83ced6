use Rattle.std.proofs.Common.{◌≡◌, ◌++◌, drop}
use Rattle.qs_entail.proofs.PlacingLaws.{all_placed}
use Rattle.qs_entail.proofs.unfolding.unfolded.Given as goal

abbrev pub invariant-loop-node : goal.invariant-loop-node
invariant-loop-node l = l.nodes.items ++ all_placed l.name l.body (drop l.node-index l.list) ≡ all_placed l.name l.body l.list
