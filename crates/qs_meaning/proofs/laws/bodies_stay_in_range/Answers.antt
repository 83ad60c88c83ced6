use Rattle.qs_meaning.proofs.RangeLaws.{bodies_stay_in_range}
use Rattle.qs_meaning.proofs.laws.bodies_stay_in_range.Goals as goal

pub returns : goal.returns
returns c = bodies_stay_in_range
