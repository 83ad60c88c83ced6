use Rattle.std.proofs.Common.{◌≡◌, ◌++◌, drop}
use Rattle.qs_assert.specs.Trees.{assertions_of}
use Rattle.qs_assert.specs.Listing.{assertions_nodes}
use Rattle.qs_assert.proofs.listing.on_assertions.Given as goal

abbrev pub invariant-loop-part : goal.invariant-loop-part
invariant-loop-part l = l.list.items ++ assertions_nodes (assertions_of (drop l.part-index l.parts)) ≡ l.initial.list.items ++ assertions_nodes (assertions_of l.parts)
