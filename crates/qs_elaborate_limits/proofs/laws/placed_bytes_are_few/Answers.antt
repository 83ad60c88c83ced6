use Rattle.qs_elaborate_limits.proofs.CoreBytes.{placed_bytes_are_few}
use Rattle.qs_elaborate_limits.proofs.laws.placed_bytes_are_few.Goals as goal

pub returns : goal.returns
returns c = placed_bytes_are_few
