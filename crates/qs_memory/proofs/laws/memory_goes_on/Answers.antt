use Rattle.qs_memory.proofs.StepLaws.{memory_goes_on}
use Rattle.qs_memory.proofs.laws.memory_goes_on.Goals as goal

pub returns : goal.returns
returns c = memory_goes_on
