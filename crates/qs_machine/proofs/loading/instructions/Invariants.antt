use Rattle.std.proofs.Common.{◌≡◌, map, take}
use Rattle.qs_isa.specs.Table.{decode_of}
use Rattle.qs_machine.proofs.loading.instructions.Given as goal

abbrev pub invariant-loop-i : goal.invariant-loop-i
invariant-loop-i l = l.instructions.items ≡ map decode_of (take l.i l.image.code)
