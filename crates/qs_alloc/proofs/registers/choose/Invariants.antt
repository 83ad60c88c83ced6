use Rattle.std.proofs.Common.{ℕ, ◌<◌}
use Rattle.qs_alloc.specs.Registers.{IsTaken}
use Rattle.qs_alloc.proofs.registers.choose.Given as goal

abbrev pub invariant-loop-r-2 : goal.invariant-loop-r-2
invariant-loop-r-2 l = (q : ℕ) → q < l.r → IsTaken q l.crosses l.taken
