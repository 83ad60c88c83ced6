use Rattle.qs_types.proofs.Rounding.{rounds}
use Rattle.qs_types.proofs.laws.rounds.Goals as goal

pub returns : goal.returns
returns c = rounds
