use Rattle.qs_events.proofs.RunLaws.{runs_follow}
use Rattle.qs_events.proofs.laws.runs_follow.Goals as goal

pub returns : goal.returns
returns c d = runs_follow _ _ _
