use Rattle.std.proofs.Common.{◌≡◌, ℕ, ◌≤◌, ◌-◌, max, length}
use Rattle.qs_alloc.specs.Rows.{row}
use Rattle.qs_alloc.proofs.rows.grow.Given as goal

abbrev pub invariant-loop-alloc : goal.invariant-loop-alloc
invariant-loop-alloc l = record {
  low : length l.initial.rows.items ≤ length l.rows.items;
  high : length l.rows.items ≤ max (length l.initial.rows.items) l.count;
  rows : (k : ℕ) → row l.rows.items k ≡ row l.initial.rows.items k;
}

abbrev pub decreases-loop-alloc : goal.decreases-loop-alloc
decreases-loop-alloc l = l.count - length l.rows.items
