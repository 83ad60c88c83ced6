use Rattle.std.proofs.Common.{ℕ, ◌<◌, ◌≤◌, length}
use Rattle.std.specs.Prelude.{Contains}
use Rattle.qs_alloc.specs.Rows.{row, Names}
use Rattle.qs_alloc.proofs.rows.rows_of.Given as goal

abbrev pub invariant-loop-index : goal.invariant-loop-index
invariant-loop-index l = record {
  enough : l.count ≤ length l.rows.items;
  names : (k q : ℕ) → Contains (row l.rows.items k) q → Names l.side l.code k q;
  named : (k q : ℕ) → q < l.index → Names l.side l.code k q → Contains (row l.rows.items k) q;
}
