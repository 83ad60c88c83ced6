use Rattle.std.proofs.Common.{◌≡◌, ◌+◌, drop}
use Rattle.qs_frames.specs.Layout.{total}
use Rattle.qs_frames.proofs.blocks.total.Given as goal

abbrev pub invariant-loop-size : goal.invariant-loop-size
invariant-loop-size l = l.sum + total (drop l.size-index l.sizes) ≡ total l.sizes
