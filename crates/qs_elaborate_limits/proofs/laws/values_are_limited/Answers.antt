use Rattle.qs_elaborate_limits.proofs.ValueLimits.{values_are_limited}
use Rattle.qs_elaborate_limits.proofs.laws.values_are_limited.Goals as goal

pub returns : goal.returns
returns c = values_are_limited
