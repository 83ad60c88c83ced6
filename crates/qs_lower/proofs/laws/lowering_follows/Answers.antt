use Rattle.qs_lower.proofs.LoweringLaws.{lowering_follows}
use Rattle.qs_lower.proofs.laws.lowering_follows.Goals as goal

pub returns : goal.returns
returns c u = lowering_follows u
