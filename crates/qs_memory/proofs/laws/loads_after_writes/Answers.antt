use Rattle.qs_memory.proofs.WriteLaws.{loads_after_writes}
use Rattle.qs_memory.proofs.laws.loads_after_writes.Goals as goal

pub returns : goal.returns
returns c = loads_after_writes
