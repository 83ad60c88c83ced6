use Rattle.std.proofs.Common.{◌≡◌, ◌++◌, map, take}
use Rattle.qs_assert.specs.declared.node.Node.TheVariants.{Term}
use Rattle.qs_assert.proofs.listing.put_term.Given as goal

abbrev pub invariant-loop-node : goal.invariant-loop-node
invariant-loop-node l = l.list.items ≡ l.initial.list.items ++ map Term (take l.node-index l.nodes)
