use Rattle.qs_elaborate_limits.proofs.CoreUnits.{held_values_are_few}
use Rattle.qs_elaborate_limits.proofs.laws.held_values_are_few.Goals as goal

pub returns : goal.returns
returns c = held_values_are_few
