use Rattle.qs_tac.proofs.RelationLaws.{linear_code_grows}
use Rattle.qs_tac.proofs.laws.linear_code_grows.Goals as goal

pub returns : goal.returns
returns c d = linear_code_grows _
