use Rattle.std.proofs.Common.{take}
use Rattle.qs_alloc.specs.Registers.{MarkedBy}
use Rattle.qs_alloc.proofs.registers.mark.Given as goal

abbrev pub invariant-loop-p : goal.invariant-loop-p
invariant-loop-p l = MarkedBy (take l.p-index l.points) l.r l.initial.busy l.busy
