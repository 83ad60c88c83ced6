use Rattle.qs_core.proofs.InitialLaws.{initial_memory_is_ready}
use Rattle.qs_core.proofs.laws.initial_memory_is_ready.Goals as goal

pub returns : goal.returns
returns c = initial_memory_is_ready
