use Rattle.qs_elaborate_laws.proofs.SizeFunctions.{values_are_few}
use Rattle.qs_elaborate_laws.proofs.laws.values_are_few.Goals as goal

pub returns : goal.returns
returns c = values_are_few
