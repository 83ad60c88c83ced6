use Rattle.qs_events.proofs.WeightLaws.{weight_is_greatest}
use Rattle.qs_events.proofs.laws.weight_is_greatest.Goals as goal

pub returns : goal.returns
returns c = weight_is_greatest
