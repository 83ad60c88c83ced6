use Rattle.std.proofs.Common.{◌≡◌, ◌≤◌, drop, length}
use Rattle.qs_entail.specs.Stacks.{both_seen, no_attempts, node_steps}
use Rattle.qs_entail.proofs.building.assertion_polynomial.Given as goal

-- the stacks are those of the nodes from here on
abbrev pub invariant-loop-at : goal.invariant-loop-at
invariant-loop-at l = record {
  within : l.at ≤ length l.nodes;
  values : both_seen l.building ≡ node_steps (drop l.at l.nodes) no_attempts;
}

abbrev pub decreases-loop-at : goal.decreases-loop-at
decreases-loop-at l = l.at
