use Rattle.qs_core.proofs.RelationLaws.{core_grows}
use Rattle.qs_core.proofs.laws.core_grows.Goals as goal

pub returns : goal.returns
returns c = core_grows
