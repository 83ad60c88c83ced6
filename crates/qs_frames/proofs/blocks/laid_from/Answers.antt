use Rattle.std.proofs.Common.{◌≤◌, drop, refl, arith}
use Rattle.std.specs.Prelude.{slice_index_or}
use Rattle.qs_frames.specs.Layout.{total}
use Rattle.qs_frames.proofs.OffsetLaws.{next_fits, none_left, starts_end}
use Rattle.qs_frames.proofs.blocks.laid_from.Goals as goal

pub rounded-end-requires : goal.rounded-end-requires
rounded-end-requires c =
    let sizes = c.args.sizes.now in
    let next : slice_index_or sizes c.loop-size.size-index 0 ≤ total (drop c.loop-size.size-index sizes) =
    next_fits sizes sizes c.loop-size.size-index refl c.loop-size-test.true in
    omega (arith, next, c.loop-size.invariant.ends, c.requires)

pub returns : goal.returns
returns c =
    let sizes = c.args.sizes.now in
    let none = none_left sizes sizes c.loop-size.size-index refl c.loop-size-test.false in
    starts_end c.args.first sizes (record { at = c.loop-size.at; end = c.loop-size.end }) (drop c.loop-size.size-index sizes) none
    c.loop-size.invariant
