use Rattle.qs_machine.specs.Standing.{state_of}
use Rattle.qs_machine.proofs.Choices.{jump-aligned}
use Rattle.qs_machine.proofs.machine.Machine.jump.Goals as goal

pub returns-clause-does : goal.returns-clause-does
returns-clause-does c = λ input image size output l.
    rw (jump-aligned size (state_of c.args.self.now input output) c.args.rd c.args.target c.next_pc-next.result c.if-target-ne0.false c.next_pc-next.ensures)
    (c.write_and_go.ensures.does input image size output l)
