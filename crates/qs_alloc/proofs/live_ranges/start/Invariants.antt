use Rattle.std.proofs.Common.{◌≡◌, ℕ, ◌<◌, length, get_or}
use Rattle.std.specs.Prelude.{Contains}
use Rattle.qs_alloc.specs.LiveRanges.{Sees, MustNeed, Leads}
use Rattle.qs_alloc.proofs.live_ranges.start.Given as goal

abbrev pub invariant-loop-q : goal.invariant-loop-q
invariant-loop-q l = record {
  sees : Sees l.stamp l.seen l.live.items;
  size : length l.seen ≡ length l.code;
  must : (p : ℕ) → Contains l.live.items p → MustNeed l.code p l.t;
  reads : (k : ℕ) → k < l.q-index → Leads l.code l.live.items (get_or l.readers k 0);
}
