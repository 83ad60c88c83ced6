use Rattle.std.proofs.Common.{◌≡◌, [], map, reverse, vec_len}
use Rattle.qs_entail.specs.View.{cert_tree}
use Rattle.qs_prooftext.specs.CertHeads.{cert_shape, head_view}
use Rattle.qs_prooftext.specs.Planting.{plants}
use Rattle.qs_prooftext.proofs.planting.build.Given as goal

abbrev pub invariant-heads : goal.invariant-heads
invariant-heads l = plants cert_shape (map head_view l.left.items) (reverse (map cert_tree l.stack.items)) ≡ plants cert_shape (map head_view l.fn.heads.items) []

abbrev pub decreases-heads : goal.decreases-heads
decreases-heads l = vec_len l.left
