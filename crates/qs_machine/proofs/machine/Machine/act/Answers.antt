use Rattle.std.proofs.Common.{◌≡◌}
use Rattle.qs_isa.specs.Registers.{a7}
use Rattle.qs_machine.specs.State.{register}
use Rattle.qs_machine.specs.Standing.{state_of}
use Rattle.qs_machine.proofs.machine.Machine.act.Goals as goal

pub returns-in-Lui-clause-does : goal.returns-in-Lui-clause-does
returns-in-Lui-clause-does c = λ image size output l.
    rw (c.in-Lui.is, ← c.word.ensures.value) (c.write.ensures.does c.args.input.now image size output l)

pub returns-in-Auipc-clause-does : goal.returns-in-Auipc-clause-does
returns-in-Auipc-clause-does c = λ image size output l.
    rw (c.in-Auipc.is, ← c.word-in-Auipc.ensures.value, ← c.add32.ensures) (c.write-in-Auipc.ensures.does c.args.input.now image size output l)

pub returns-in-Jal-clause-does : goal.returns-in-Jal-clause-does
returns-in-Jal-clause-does c = λ image size output l.
    rw (c.in-Jal.is, ← c.word-in-Jal.ensures.value, ← c.add32-in-Jal.ensures) (c.jump.ensures.does c.args.input.now image size output l)

pub returns-in-Jalr-clause-does : goal.returns-in-Jalr-clause-does
returns-in-Jalr-clause-does c = λ image size output l.
    rw (c.in-Jalr.is, ← c.word-in-Jalr.ensures.value, ← c.read.ensures, ← c.add32-in-Jalr.ensures) (c.jump-in-Jalr.ensures.does c.args.input.now image size output l)

pub returns-in-Branch-clause-does : goal.returns-in-Branch-clause-does
returns-in-Branch-clause-does c = λ image size output l.
    rw (c.in-Branch.is, ← c.word-in-Branch.ensures.value, ← c.read-in-Branch.ensures, ← c.read-in-Branch-2.ensures, ← c.is_taken-taken.ensures, ← c.add32-in-Branch.ensures) (c.branch-self.ensures.does c.args.input.now image size output l)

pub returns-in-Load-clause-does : goal.returns-in-Load-clause-does
returns-in-Load-clause-does c = λ image size output l.
    rw (c.in-Load.is, ← c.word-in-Load.ensures.value, ← c.read-in-Load.ensures, ← c.add32-address.ensures) (c.load.ensures.does c.args.input.now image size output l)

pub returns-in-Store-clause-does : goal.returns-in-Store-clause-does
returns-in-Store-clause-does c = λ image size output l.
    rw (c.in-Store.is, ← c.word-in-Store.ensures.value, ← c.read-in-Store.ensures, ← c.add32-address-in-Store.ensures, ← c.read-value.ensures) (c.store.ensures.does c.args.input.now image size output l)

pub returns-in-OpImm-clause-does : goal.returns-in-OpImm-clause-does
returns-in-OpImm-clause-does c = λ image size output l.
    rw (c.in-OpImm.is, ← c.word-in-OpImm.ensures.value, ← c.read-in-OpImm.ensures, ← c.op_imm_result-value.ensures) (c.write-in-OpImm.ensures.does c.args.input.now image size output l)

pub returns-in-ShiftImm-clause-does : goal.returns-in-ShiftImm-clause-does
returns-in-ShiftImm-clause-does c = λ image size output l.
    rw (c.in-ShiftImm.is, ← c.bits.ensures.value, ← c.from.ensures, ← c.read-in-ShiftImm.ensures, ← c.shift_result-value.ensures) (c.write-in-ShiftImm.ensures.does c.args.input.now image size output l)

pub returns-in-Op-clause-does : goal.returns-in-Op-clause-does
returns-in-Op-clause-does c = λ image size output l.
    rw (c.in-Op.is, ← c.read-in-Op.ensures, ← c.read-in-Op-2.ensures, ← c.op_result-value.ensures) (c.write-in-Op.ensures.does c.args.input.now image size output l)

pub returns-in-Fence-clause-does : goal.returns-in-Fence-clause-does
returns-in-Fence-clause-does c = λ image size output l.
    rw (c.in-Fence.is, ← c.next_pc-next.ensures) (c.go_to.ensures.does c.args.input.now image size output l)

pub returns-in-Ecall-clause-does : goal.returns-in-Ecall-clause-does
returns-in-Ecall-clause-does c = λ image size output l.
    let number : c.read-call.result ≡ register (state_of c.args.self.now c.args.input.now output) a7 = c.read-call.ensures in
    rw (c.in-Ecall.is, ← number) (c.environment_call.ensures.does image size output l)
