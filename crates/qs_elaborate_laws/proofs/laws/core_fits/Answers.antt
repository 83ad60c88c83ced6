use Rattle.qs_elaborate_laws.proofs.FitUnits.{core_fits}
use Rattle.qs_elaborate_laws.proofs.laws.core_fits.Goals as goal

pub returns : goal.returns
returns c = core_fits
