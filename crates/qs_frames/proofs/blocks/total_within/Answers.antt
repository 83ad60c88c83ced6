use Rattle.std.proofs.Common.{◌≡◌, ◌+◌, ◌≤◌, ◌<◌, ◌^◌, ℕ, true, false, drop, refl, arith}
use Rattle.std.specs.Prelude.{slice_index_or}
use Rattle.qs_frames.specs.Layout.{rounded, total}
use Rattle.qs_frames.proofs.FrameLaws.{is_rounded}
use Rattle.qs_frames.proofs.OffsetLaws.{next_fits}
use Rattle.qs_frames.proofs.blocks.total_within.Goals as goal

none_fits : (n : ℕ) → 2 ^ 28 < n → (false ≡ true → n ≤ 2 ^ 28) × (n ≤ 2 ^ 28 → false ≡ true)
none_fits n h = (λ e. absurd cc, λ w. absurd (omega (arith, h, w)))

pub returns-then-size-gt-LARGEST_FRAME-clause-fits : goal.returns-then-size-gt-LARGEST_FRAME-clause-fits
returns-then-size-gt-LARGEST_FRAME-clause-fits c =
    let sizes = c.args.sizes.now in
    let next : slice_index_or sizes c.loop-size.size-index 0 ≤ total (drop c.loop-size.size-index sizes) =
    next_fits sizes sizes c.loop-size.size-index refl c.loop-size-test.true in
    none_fits (total sizes) (omega (arith, next, c.loop-size.invariant.all, c.if-size-gt-LARGEST_FRAME.true))

pub overflow_add-sum : goal.overflow_add-sum
overflow_add-sum c =
    let size = slice_index_or c.args.sizes.now c.loop-size.size-index 0 in
    let least : rounded size ≤ size + 3 = (is_rounded size).least in
    omega (arith, least, c.rounded-sum.ensures, c.loop-size.invariant.within, c.if-size-gt-LARGEST_FRAME.false)
