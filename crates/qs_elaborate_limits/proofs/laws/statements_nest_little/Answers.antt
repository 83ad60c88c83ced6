use Rattle.qs_elaborate_limits.proofs.CoreUnits.{statements_nest_little}
use Rattle.qs_elaborate_limits.proofs.laws.statements_nest_little.Goals as goal

pub returns : goal.returns
returns c = statements_nest_little
