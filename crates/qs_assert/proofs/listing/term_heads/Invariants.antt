use Rattle.std.proofs.Common.{◌≡◌, ◌++◌, drop}
use Rattle.qs_assert.specs.Listing.{term_heads}
use Rattle.qs_assert.proofs.listing.term_heads.Given as goal

abbrev pub invariant-loop-node : goal.invariant-loop-node
invariant-loop-node l = l.list.items ++ term_heads (drop l.node-index l.nodes) ≡ term_heads l.nodes
