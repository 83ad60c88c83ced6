use Rattle.qs_elaborate_limits.proofs.CoreUnits.{arguments_are_few}
use Rattle.qs_elaborate_limits.proofs.laws.arguments_are_few.Goals as goal

pub returns : goal.returns
returns c = arguments_are_few
