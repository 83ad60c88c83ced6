use Rattle.qs_emit.proofs.WatchLaws.{watching_refines}
use Rattle.qs_emit.proofs.laws.watching_refines.Goals as goal

pub returns : goal.returns
returns c image r steps w quiet low = watching_refines image r quiet steps w low
