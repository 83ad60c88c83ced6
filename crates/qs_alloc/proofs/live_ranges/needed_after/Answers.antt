use Rattle.std.proofs.Common.{subst, ◌<◌, ℕ}
use Rattle.qs_alloc.proofs.LiveLaws.{sees_fresh}
use Rattle.qs_alloc.proofs.live_ranges.needed_after.Goals as goal

pub start-requires-clause-sees : goal.start-requires-clause-sees
start-requires-clause-sees c = sees_fresh _ _ _ c.requires.fresh c.new-live.ensures.items

pub returns-clause-live : goal.returns-clause-live
returns-clause-live c =
    let s = c.in_ok-spread.ensures in
    record {
      below = λ p d. subst (λ (n : ℕ). p < n) s.started.size (s.started.sees.below p d);
      must = s.started.must;
      reads = s.started.reads;
      passes = s.passes;
    }
