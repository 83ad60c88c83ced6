use Rattle.qs_alloc.proofs.LiveLaws.{reached_more}
use Rattle.qs_alloc.proofs.live_ranges.reach.Goals as goal

pub loop-p-preserved : goal.loop-p-preserved
loop-p-preserved c = reached_more _ _ _ _ _ _ _ _ _ c.loop-p-test.true c.loop-p.invariant c.in_ok-reach_one.ensures
