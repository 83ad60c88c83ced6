use Rattle.std.proofs.Common.{◌≡◌, ◌++◌, drop}
use Rattle.qs_frames.specs.Layout.{used_among}
use Rattle.qs_frames.proofs.parts.put_used.Given as goal

abbrev pub invariant-loop-register : goal.invariant-loop-register
invariant-loop-register l =
    l.stored.items ++ used_among l.places (drop l.register-index l.registers) ≡ l.initial.stored.items ++ used_among l.places l.registers
