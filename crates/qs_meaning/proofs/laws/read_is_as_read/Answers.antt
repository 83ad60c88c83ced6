use Rattle.qs_meaning.proofs.FitReadings.{read_is_as_read}
use Rattle.qs_meaning.proofs.laws.read_is_as_read.Goals as goal

pub returns : goal.returns
returns c = read_is_as_read
