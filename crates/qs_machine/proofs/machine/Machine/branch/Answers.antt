use Rattle.std.proofs.Common.{rules}
use Rattle.qs_machine.specs.Standing.{state_of}
use Rattle.qs_machine.proofs.Choices.{branch-not_taken, branch-taken}
use Rattle.qs_machine.proofs.machine.Machine.branch.Goals as goal

pub returns-then-not-taken-clause-does : goal.returns-then-not-taken-clause-does
returns-then-not-taken-clause-does c = λ input image size output l.
    rw (branch-not_taken (state_of c.args.self.now input output) c.args.taken c.args.target c.next_pc-next.result (search rules) c.next_pc-next.ensures)
    (c.go_to.ensures.does input image size output l)

pub returns-then-target-eq0-clause-does : goal.returns-then-target-eq0-clause-does
returns-then-target-eq0-clause-does c = λ input image size output l.
    rw (branch-taken (state_of c.args.self.now input output) c.args.taken c.args.target (search rules) c.if-target-eq0.true)
    (c.go_to-then-target-eq0.ensures.does input image size output l)
