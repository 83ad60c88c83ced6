use Rattle.std.proofs.Common.{◌≡◌, ℕ, ◌<◌, ◌⊎◌, get_or, length}
use Rattle.std.specs.Prelude.{Contains}
use Rattle.qs_alloc.specs.Rows.{row}
use Rattle.qs_alloc.proofs.lists.list_one.Given as goal

abbrev pub invariant-loop-p : goal.invariant-loop-p
invariant-loop-p l = record {
  count : length l.needed.items ≡ length l.initial.needed.items;
  there : (k : ℕ) → k < l.p-index → Contains (row l.needed.items (get_or l.live k 0)) l.t;
  keeps : (p u : ℕ) → Contains (row l.initial.needed.items p) u → Contains (row l.needed.items p) u;
  from : (p u : ℕ) → Contains (row l.needed.items p) u → Contains (row l.initial.needed.items p) u ⊎ ((u ≡ l.t) × Contains l.live p);
}
