use Rattle.qs_events.proofs.RunLaws.{runs_grow}
use Rattle.qs_events.proofs.laws.runs_grow.Goals as goal

pub returns : goal.returns
returns c d = runs_grow _
