use Rattle.qs_machine.proofs.machine.Machine.write.Goals as goal

pub returns-clause-does : goal.returns-clause-does
returns-clause-does c = λ input image size output l. rw (← c.next_pc-next.ensures) (c.write_and_go.ensures.does input image size output l)
