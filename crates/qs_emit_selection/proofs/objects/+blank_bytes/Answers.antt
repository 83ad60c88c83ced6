use Rattle.std.proofs.Common.{◌≡◌, map, drop, arith}
use Rattle.qs_memory.specs.BlankOf.{blank_tree, joined_of}
use Rattle.qs_memory.specs.Sizes.{blank_size}
use Rattle.qs_emit_selection.proofs.FitLaws.{nothing_rests}
use Rattle.qs_emit_selection.proofs.objects.+blank_bytes.Goals as goal

pub joined_bytes-returns : goal.joined_bytes-returns
joined_bytes-returns t c =
    let none : blank_size (joined_of (map blank_tree (drop c.loop-part.part-index c.args.parts.now))) ≡ 0 =
    nothing_rests c.args.parts.now c.loop-part.part-index c.loop-part-test.false in
    omega (arith, none, c.loop-part.invariant.all, c.loop-part.invariant.within)
