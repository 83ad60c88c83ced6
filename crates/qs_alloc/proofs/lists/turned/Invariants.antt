use Rattle.std.proofs.Common.{◌≡◌, ℕ, ◌<◌, length}
use Rattle.std.specs.Prelude.{Contains}
use Rattle.qs_alloc.specs.Rows.{row}
use Rattle.qs_alloc.proofs.lists.turned.Given as goal

abbrev pub invariant-loop-t : goal.invariant-loop-t
invariant-loop-t l = record {
  count : length l.needed.items ≡ l.instructions;
  there : (u p : ℕ) → u < l.t → Contains (row l.rows u) p → Contains (row l.needed.items p) u;
  from : (u p : ℕ) → Contains (row l.needed.items p) u → Contains (row l.rows u) p;
}
