use Rattle.qs_memory.proofs.WriteLaws.{writes_are_exact}
use Rattle.qs_memory.proofs.laws.writes_are_exact.Goals as goal

pub returns : goal.returns
returns c = writes_are_exact
