use Rattle.qs_memory.proofs.DefinedLaws.{steps_are_defined}
use Rattle.qs_memory.proofs.laws.steps_are_defined.Goals as goal

pub returns : goal.returns
returns c = steps_are_defined
