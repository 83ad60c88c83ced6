use Rattle.qs_elaborate_laws.proofs.Units.{main_follows}
use Rattle.qs_elaborate_laws.proofs.laws.main_follows.Goals as goal

pub returns : goal.returns
returns c = main_follows
