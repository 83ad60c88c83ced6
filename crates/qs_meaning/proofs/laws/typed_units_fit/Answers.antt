use Rattle.qs_meaning.proofs.FitUnits.{typed_units_fit}
use Rattle.qs_meaning.proofs.laws.typed_units_fit.Goals as goal

pub returns : goal.returns
returns c = typed_units_fit
