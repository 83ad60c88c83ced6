use Rattle.std.proofs.Common.{take}
use Rattle.qs_alloc.specs.LiveRanges.{Reached}
use Rattle.qs_alloc.proofs.live_ranges.reach.Given as goal

abbrev pub invariant-loop-p : goal.invariant-loop-p
invariant-loop-p l = Reached l.stamp (take l.p-index l.from) l.initial.seen l.seen l.initial.live.items l.live.items
