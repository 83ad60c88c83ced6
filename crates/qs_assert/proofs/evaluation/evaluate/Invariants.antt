use Rattle.std.proofs.Common.{◌≡◌, ◌≤◌, drop, length}
use Rattle.qs_assert.specs.Stacks.{steps}
use Rattle.qs_assert.specs.Evaluations.{seen, meaning}
use Rattle.qs_assert.proofs.evaluation.evaluate.Given as goal

-- the stacks are those of the nodes from here on
abbrev pub invariant-loop-at : goal.invariant-loop-at
invariant-loop-at l = record {
  within : l.at ≤ length l.nodes;
  values : seen l.evaluation ≡ steps (meaning l.args l.costs l.known.entries) (drop l.at l.nodes);
}

abbrev pub decreases-loop-at : goal.decreases-loop-at
decreases-loop-at l = l.at
