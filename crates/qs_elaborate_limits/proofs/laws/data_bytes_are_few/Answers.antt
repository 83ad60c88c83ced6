use Rattle.qs_elaborate_limits.proofs.CoreBytes.{data_bytes_are_few}
use Rattle.qs_elaborate_limits.proofs.laws.data_bytes_are_few.Goals as goal

pub returns : goal.returns
returns c = data_bytes_are_few
