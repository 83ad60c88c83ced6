use Rattle.qs_lower.proofs.UnitFits.{lowered_fits}
use Rattle.qs_lower.proofs.laws.lowered_fits.Goals as goal

pub returns : goal.returns
returns c u = lowered_fits u
