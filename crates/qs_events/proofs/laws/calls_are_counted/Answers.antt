use Rattle.qs_events.proofs.WeightLaws.{calls_are_counted}
use Rattle.qs_events.proofs.laws.calls_are_counted.Goals as goal

pub returns : goal.returns
returns c = calls_are_counted
