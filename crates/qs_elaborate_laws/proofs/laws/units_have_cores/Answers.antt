use Rattle.qs_elaborate_laws.proofs.FitCore.{units_have_cores}
use Rattle.qs_elaborate_laws.proofs.laws.units_have_cores.Goals as goal

pub returns : goal.returns
returns c = units_have_cores
