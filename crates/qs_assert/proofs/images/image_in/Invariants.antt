use Rattle.std.proofs.Common.{◌≡◌, drop}
use Rattle.qs_assert.specs.Simultaneous.{image_in}
use Rattle.qs_assert.proofs.images.image_in.Given as goal

-- no image so far is of the variable
abbrev pub invariant-loop-image : goal.invariant-loop-image
invariant-loop-image l = image_in l.list l.x ≡ image_in (drop l.image-index l.list) l.x
