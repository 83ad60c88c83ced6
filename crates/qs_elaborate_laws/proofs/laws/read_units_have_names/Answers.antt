use Rattle.qs_elaborate_laws.proofs.FitReads.{read_units_have_names}
use Rattle.qs_elaborate_laws.proofs.laws.read_units_have_names.Goals as goal

pub returns : goal.returns
returns c = read_units_have_names
