use Rattle.qs_elaborate_limits.proofs.CoreUnits.{code_is_small}
use Rattle.qs_elaborate_limits.proofs.laws.code_is_small.Goals as goal

pub returns : goal.returns
returns c = code_is_small
