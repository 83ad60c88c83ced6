use Rattle.std.proofs.Common.{◌≡◌, ◌+◌, ap, arith}
use Rattle.qs_machine.specs.Parts.{memory_in}
use Rattle.qs_tasks_run.specs.Contexts.{word_at}
use Rattle.qs_tasks_machine.proofs.Changes.{in_stack}
use Rattle.qs_tasks_machine.proofs.contexts.word_at.Goals as goal

pub stack_byte-requires : goal.stack_byte-requires
stack_byte-requires c = in_stack c.args.machine.now c.args.at 4 c.args.at c.requires (omega arith) (omega arith)

pub stack_byte-requires-2 : goal.stack_byte-requires-2
stack_byte-requires-2 c = in_stack c.args.machine.now c.args.at 4 (c.args.at + 1) c.requires (omega arith) (omega arith)

pub stack_byte-requires-3 : goal.stack_byte-requires-3
stack_byte-requires-3 c = in_stack c.args.machine.now c.args.at 4 (c.args.at + 2) c.requires (omega arith) (omega arith)

pub stack_byte-requires-4 : goal.stack_byte-requires-4
stack_byte-requires-4 c = in_stack c.args.machine.now c.args.at 4 (c.args.at + 3) c.requires (omega arith) (omega arith)

pub returns : goal.returns
unfolding word_at
returns c =
    let there : c.args.at + 2 + 1 ≡ c.args.at + 3 = omega arith in
    let a = c.stack_byte.ensures in
    let b = c.stack_byte-2.ensures in
    let d = c.stack_byte-3.ensures in
    let e = ap (memory_in c.args.machine.now) there in
    let f = c.stack_byte-4.ensures in
    omega (arith, a, b, d, e, f)
