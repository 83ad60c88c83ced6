use Rattle.qs_elaborate_laws.proofs.Units.{core_follows}
use Rattle.qs_elaborate_laws.proofs.laws.core_follows.Goals as goal

pub returns : goal.returns
returns c = core_follows
