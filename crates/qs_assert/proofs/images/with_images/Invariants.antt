use Rattle.std.proofs.Common.{◌≡◌, ◌++◌, drop}
use Rattle.qs_assert.specs.Simultaneous.{image_in, terms_for}
use Rattle.qs_assert.proofs.ReplacementLaws.{replaced}
use Rattle.qs_assert.proofs.images.with_images.Given as goal

abbrev pub invariant-loop-node : goal.invariant-loop-node
invariant-loop-node l =
    l.nodes.items ++ replaced (terms_for (image_in l.list)) (drop l.node-index l.given) ≡ replaced (terms_for (image_in l.list)) l.given
