use Rattle.qs_events.proofs.WeightLaws.{joined_traces_weigh}
use Rattle.qs_events.proofs.laws.joined_traces_weigh.Goals as goal

pub returns : goal.returns
returns c = joined_traces_weigh
