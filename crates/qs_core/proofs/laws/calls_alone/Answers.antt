use Rattle.qs_core.proofs.RelationLaws.{calls_alone}
use Rattle.qs_core.proofs.laws.calls_alone.Goals as goal

pub returns : goal.returns
returns c = calls_alone
