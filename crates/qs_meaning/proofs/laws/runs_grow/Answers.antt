use Rattle.qs_meaning.proofs.Growth.{runs_grow}
use Rattle.qs_meaning.proofs.laws.runs_grow.Goals as goal

pub returns : goal.returns
returns c = runs_grow
