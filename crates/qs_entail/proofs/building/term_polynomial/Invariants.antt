use Rattle.std.proofs.Common.{◌≡◌, ◌≤◌, [], drop, length}
use Rattle.qs_entail.specs.Stacks.{seen, term_steps}
use Rattle.qs_entail.proofs.building.term_polynomial.Given as goal

-- the stack is that of the nodes from here on
abbrev pub invariant-loop-at : goal.invariant-loop-at
invariant-loop-at l = record {
  within : l.at ≤ length l.nodes;
  values : seen l.stack.items ≡ term_steps (drop l.at l.nodes) [];
}

abbrev pub decreases-loop-at : goal.decreases-loop-at
decreases-loop-at l = l.at
