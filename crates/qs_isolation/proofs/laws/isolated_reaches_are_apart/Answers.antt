use Rattle.qs_isolation.proofs.TaskReach.{isolated_reaches_are_apart}
use Rattle.qs_isolation.proofs.laws.isolated_reaches_are_apart.Goals as goal

pub returns : goal.returns
returns c = isolated_reaches_are_apart
