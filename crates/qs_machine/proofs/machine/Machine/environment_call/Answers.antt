use Rattle.qs_machine.proofs.machine.Machine.environment_call.Goals as goal

pub returns-in-2-clause-does : goal.returns-in-2-clause-does
returns-in-2-clause-does c = λ image size output l. rw c.in-2.is (c.take_byte.ensures.does image size output l)
