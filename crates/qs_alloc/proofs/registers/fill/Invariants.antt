use Rattle.std.proofs.Common.{ℕ, ◌<◌, ◌≤◌, length}
use Rattle.qs_alloc.specs.Registers.{Filled, Blocked, Further}
use Rattle.qs_alloc.proofs.registers.fill.Given as goal

abbrev pub invariant-loop-left : goal.invariant-loop-left
invariant-loop-left l = record {
  filled : Filled l.parameters l.code l.rows l.at l.busy;
  further : Further l.initial.at l.at;
  low : l.left ≤ length l.initial.at;
  blocked : (t : ℕ) → l.left ≤ t → t < length l.initial.at → Blocked l.parameters l.code l.rows l.at t;
}

abbrev pub decreases-loop-left : goal.decreases-loop-left
decreases-loop-left l = l.left
