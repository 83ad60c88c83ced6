use Rattle.qs_meaning.proofs.RangeLaws.{initial_memory_is_ready}
use Rattle.qs_meaning.proofs.laws.initial_memory_is_ready.Goals as goal

pub returns : goal.returns
returns c = initial_memory_is_ready
