use Rattle.qs_events.proofs.RunLaws.{longer_runs_weigh_more_by}
use Rattle.qs_events.proofs.laws.longer_runs_weigh_more.Goals as goal

pub returns : goal.returns
returns c d = longer_runs_weigh_more_by _
