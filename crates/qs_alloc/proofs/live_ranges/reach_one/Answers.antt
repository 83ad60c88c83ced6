use Rattle.qs_alloc.proofs.LiveLaws.{reached_push}
use Rattle.qs_alloc.proofs.live_ranges.reach_one.Goals as goal

pub returns-in_ok-push : goal.returns-in_ok-push
returns-in_ok-push c = reached_push _ _ _ _ _ c.requires.sees c.requires.here c.if-seen-p.true c.in_ok-push.ensures.items
