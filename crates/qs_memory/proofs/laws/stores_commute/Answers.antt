use Rattle.qs_memory.proofs.StoreLaws.{stores_commute}
use Rattle.qs_memory.proofs.laws.stores_commute.Goals as goal

pub returns : goal.returns
returns c = stores_commute
