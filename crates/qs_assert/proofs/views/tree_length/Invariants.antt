use Rattle.std.proofs.Common.{◌≡◌, ◌≤◌, ◌+◌, ◌*◌, ◌^◌, drop}
use Rattle.qs_assert.specs.Views.{front_length}
use Rattle.qs_assert.proofs.views.tree_length.Given as goal

-- the nodes so far, and those of the trees that are needed still
abbrev pub invariant-loop-i : goal.invariant-loop-i
invariant-loop-i l = record {
  all : l.i + front_length (drop l.i l.nodes) l.needed ≡ front_length l.nodes 1;
  small : l.needed ≤ 1 + l.i * 2 ^ 64;
}
