use Rattle.qs_emit.proofs.WatchLaws.{watching_steps}
use Rattle.qs_emit.proofs.laws.watching_steps.Goals as goal

pub returns : goal.returns
returns c image r w to e = watching_steps image r w to e
