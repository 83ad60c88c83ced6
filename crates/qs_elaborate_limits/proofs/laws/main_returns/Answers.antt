use Rattle.qs_elaborate_limits.proofs.MainReturns.{main_returns}
use Rattle.qs_elaborate_limits.proofs.laws.main_returns.Goals as goal

pub returns : goal.returns
returns c = main_returns
