use Rattle.qs_meaning.proofs.RangeLaws.{calls_stay_in_range}
use Rattle.qs_meaning.proofs.laws.calls_stay_in_range.Goals as goal

pub returns : goal.returns
returns c = calls_stay_in_range
