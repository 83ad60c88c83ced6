use Rattle.std.proofs.Common.{ℕ, ◌<◌, ◌≤◌, ◌-◌, length, get_or}
use Rattle.qs_alloc.specs.LiveRanges.{Started, Passes}
use Rattle.qs_alloc.proofs.live_ranges.spread.Given as goal

abbrev pub invariant-loop-next : goal.invariant-loop-next
invariant-loop-next l = record {
  started : Started l.code l.t l.stamp l.seen l.live.items;
  most : l.next ≤ length l.live.items;
  passes : (k : ℕ) → k < l.next → Passes l.code l.t l.live.items (get_or l.live.items k 0);
}

abbrev pub decreases-loop-next : goal.decreases-loop-next
decreases-loop-next l = length l.code - l.next
