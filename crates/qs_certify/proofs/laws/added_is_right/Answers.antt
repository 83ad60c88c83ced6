use Rattle.qs_certify.proofs.RightLaws.{added_is_right}
use Rattle.qs_certify.proofs.laws.added_is_right.Goals as goal

pub returns : goal.returns
returns c = added_is_right
