use Rattle.std.proofs.Common.{◌≡◌, ℕ, ◌<◌, Some, true, get_or}
use Rattle.std.specs.Prelude.{slice_get}
use Rattle.qs_tac.specs.declared.instruction.Instruction.{Instruction}
use Rattle.qs_tac.specs.TreeOf.{instruction_tree}
use Rattle.qs_tac.specs.Liveness.{is_call}
use Rattle.qs_alloc.proofs.points.crosses.Given as goal

abbrev pub invariant-loop-p : goal.invariant-loop-p
invariant-loop-p l = (k : ℕ) (i : Instruction) → k < l.p-index → slice_get l.code (get_or l.live k 0) ≡ Some i → is_call (instruction_tree i) ≡ true → ⊥
