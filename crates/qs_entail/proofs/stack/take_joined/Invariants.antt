use Rattle.std.proofs.Common.{◌≡◌, drop}
use Rattle.qs_poly.specs.Operations as operations
use Rattle.qs_entail.specs.Building as building
use Rattle.qs_entail.specs.Stacks.{attempt_of, seen, joined}
use Rattle.qs_entail.proofs.stack.take_joined.Given as goal

abbrev pub invariant-loop-left : goal.invariant-loop-left
invariant-loop-left l = record {
  value : joined l.operation l.count (seen l.initial.stack.items) (building.limited (operations.number l.start)) ≡ joined l.operation l.left (seen l.stack.items) (attempt_of l.so_far);
  left : drop l.count (seen l.initial.stack.items) ≡ drop l.left (seen l.stack.items);
}

abbrev pub decreases-loop-left : goal.decreases-loop-left
decreases-loop-left l = l.left
