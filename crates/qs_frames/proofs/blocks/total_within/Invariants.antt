use Rattle.std.proofs.Common.{◌≡◌, ◌+◌, ◌≤◌, ◌^◌, drop}
use Rattle.qs_frames.specs.Layout.{total}
use Rattle.qs_frames.proofs.blocks.total_within.Given as goal

abbrev pub invariant-loop-size : goal.invariant-loop-size
invariant-loop-size l = record {
  all : l.sum + total (drop l.size-index l.sizes) ≡ total l.sizes;
  within : l.sum ≤ 2 ^ 28;
}
