use Rattle.qs_elaborate_limits.proofs.CoreUnits.{parameters_are_few}
use Rattle.qs_elaborate_limits.proofs.laws.parameters_are_few.Goals as goal

pub returns : goal.returns
returns c = parameters_are_few
