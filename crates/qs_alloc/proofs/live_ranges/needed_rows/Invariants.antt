use Rattle.std.proofs.Common.{◌≡◌, ℕ, ◌<◌, ◌+◌, length}
use Rattle.qs_alloc.specs.Rows.{row}
use Rattle.qs_alloc.specs.LiveRanges.{AllBelowStamp, LiveAfter}
use Rattle.qs_alloc.proofs.live_ranges.needed_rows.Given as goal

abbrev pub invariant-loop-t : goal.invariant-loop-t
invariant-loop-t l = record {
  size : length l.seen ≡ length l.code;
  fresh : AllBelowStamp (l.t + 1) l.seen;
  count : length l.rows.items ≡ l.t;
  each : (u : ℕ) → u < l.t → LiveAfter l.code u (row l.rows.items u);
}
