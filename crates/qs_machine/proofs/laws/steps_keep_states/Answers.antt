use Rattle.qs_machine.proofs.StepLaws.{steps_keep_states}
use Rattle.qs_machine.proofs.laws.steps_keep_states.Goals as goal

pub returns : goal.returns
returns c image size s next short state is = steps_keep_states image size s next short state is
