use Rattle.std.proofs.Common.{◌≡◌, ◌++◌, drop}
use Rattle.qs_assert.specs.Trees.{conds_of}
use Rattle.qs_assert.specs.Listing.{conds_nodes}
use Rattle.qs_assert.proofs.listing.on_conds.Given as goal

abbrev pub invariant-loop-part : goal.invariant-loop-part
invariant-loop-part l = l.list.items ++ conds_nodes (conds_of (drop l.part-index l.parts)) ≡ l.initial.list.items ++ conds_nodes (conds_of l.parts)
