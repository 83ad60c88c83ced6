use Rattle.qs_elaborate_limits.proofs.CoreUnits.{functions_are_few}
use Rattle.qs_elaborate_limits.proofs.laws.functions_are_few.Goals as goal

pub returns : goal.returns
returns c = functions_are_few
