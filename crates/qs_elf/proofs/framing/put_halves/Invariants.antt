use Rattle.std.proofs.Common.{◌≡◌, ◌++◌, drop}
use Rattle.qs_elf.specs.Elf.{halves_bytes}
use Rattle.qs_elf.proofs.framing.put_halves.Given as goal

-- what is written and the halves ahead are the whole
abbrev pub invariant-loop-half : goal.invariant-loop-half
invariant-loop-half l = l.bytes.items ++ halves_bytes (drop l.half-index l.halves) ≡ l.fn.bytes.items ++ halves_bytes l.halves
