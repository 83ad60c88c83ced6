use Rattle.qs_meaning.proofs.UnitsTyped.{units_typed}
use Rattle.qs_meaning.proofs.laws.units_typed.Goals as goal

pub returns : goal.returns
returns c = units_typed
