use Rattle.std.proofs.Common.{◌≡◌, ◌+◌, drop, length}
use Rattle.qs_frames.specs.Layout.{used_among}
use Rattle.qs_frames.proofs.parts.used_count.Given as goal

abbrev pub invariant-loop-register : goal.invariant-loop-register
invariant-loop-register l =
    l.count + length (used_among l.fn.places (drop l.register-index l.registers)) ≡ length (used_among l.fn.places l.registers)
