use Rattle.std.proofs.Common.{◌≡◌, ◌≤◌, ◌+◌, ◌*◌, ◌^◌, drop}
use Rattle.qs_assert.specs.Shapes.{are_terms}
use Rattle.qs_assert.proofs.shape.is_one_term.Given as goal

-- what the nodes so far leave due
abbrev pub invariant-loop-i : goal.invariant-loop-i
invariant-loop-i l = record {
  same : are_terms l.nodes 1 ≡ are_terms (drop l.i l.nodes) l.due;
  small : l.due ≤ 1 + l.i * 2 ^ 64;
}
