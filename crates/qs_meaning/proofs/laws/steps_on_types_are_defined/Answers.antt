use Rattle.qs_meaning.proofs.StepNeeds.{steps_on_types_are_defined}
use Rattle.qs_meaning.proofs.laws.steps_on_types_are_defined.Goals as goal

pub returns : goal.returns
returns c = steps_on_types_are_defined
