use Rattle.std.proofs.Common.{◌≡◌, [], map, reverse, vec_len}
use Rattle.qs_triples.specs.TreeOf.{derivation_tree}
use Rattle.qs_prooftext.specs.DerivationHeads.{derivation_shape, derivation_head}
use Rattle.qs_prooftext.specs.Planting.{plants}
use Rattle.qs_prooftext.proofs.building.build.Given as goal

abbrev pub invariant-heads : goal.invariant-heads
invariant-heads l = plants derivation_shape (map derivation_head l.left.items) (reverse (map derivation_tree l.stack.items)) ≡ plants derivation_shape (map derivation_head l.fn.heads.items) []

abbrev pub decreases-heads : goal.decreases-heads
decreases-heads l = vec_len l.left
