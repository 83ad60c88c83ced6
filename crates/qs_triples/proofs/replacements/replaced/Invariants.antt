use Rattle.std.proofs.Common.{◌≡◌, ◌++◌, drop}
use Rattle.qs_assert.specs.Simultaneous.{terms_for}
use Rattle.qs_assert.proofs.ReplacementLaws.{replaced}
use Rattle.qs_triples.specs.Replacements.{image}
use Rattle.qs_triples.proofs.replacements.replaced.Given as goal

-- those so far, and the images of the rest
abbrev pub invariant-loop-node : goal.invariant-loop-node
invariant-loop-node l = l.nodes.items ++ replaced (terms_for (image l.r)) (drop l.node-index l.given) ≡ replaced (terms_for (image l.r)) l.given
