use Rattle.qs_elaborate_limits.proofs.MainParameters.{main_parameters_are_few}
use Rattle.qs_elaborate_limits.proofs.laws.main_parameters_are_few.Goals as goal

pub returns : goal.returns
returns c = main_parameters_are_few
