use Rattle.std.proofs.Common.{◌≡◌, ◌++◌, drop}
use Rattle.qs_assert.specs.Trees.{terms_of}
use Rattle.qs_assert.specs.Listing.{terms_nodes}
use Rattle.qs_assert.proofs.listing.term_on_all.Given as goal

abbrev pub invariant-loop-part : goal.invariant-loop-part
invariant-loop-part l = l.list.items ++ terms_nodes (terms_of (drop l.part-index l.parts)) ≡ l.initial.list.items ++ terms_nodes (terms_of l.parts)
