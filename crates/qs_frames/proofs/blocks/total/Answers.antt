use Rattle.std.proofs.Common.{◌≤◌, drop, refl, arith}
use Rattle.std.specs.Prelude.{slice_index_or}
use Rattle.qs_frames.specs.Layout.{total}
use Rattle.qs_frames.proofs.OffsetLaws.{next_fits}
use Rattle.qs_frames.proofs.blocks.total.Goals as goal

pub rounded-sum-requires : goal.rounded-sum-requires
rounded-sum-requires c =
    let sizes = c.args.sizes.now in
    let next : slice_index_or sizes c.loop-size.size-index 0 ≤ total (drop c.loop-size.size-index sizes) =
    next_fits sizes sizes c.loop-size.size-index refl c.loop-size-test.true in
    omega (arith, next, c.loop-size.invariant, c.requires)
