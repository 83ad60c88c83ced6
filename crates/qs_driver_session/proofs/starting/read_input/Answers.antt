use Rattle.qs_driver_session.proofs.SharedSteps.{input_takes}
use Rattle.qs_driver_session.proofs.starting.read_input.Goals as goal

pub returns-in-Some-clause-takes : goal.returns-in-Some-clause-takes
returns-in-Some-clause-takes g c = rw c.in-Some.is (input_takes _ _ c.in-Some.name.now c.read_file.result c.read_file.ensures.takes)
