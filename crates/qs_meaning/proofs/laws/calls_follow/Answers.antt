use Rattle.qs_meaning.proofs.Growth.{calls_follow}
use Rattle.qs_meaning.proofs.laws.calls_follow.Goals as goal

pub returns : goal.returns
returns c = calls_follow
