use Rattle.std.proofs.Common.{◌≡◌, ℕ, ◌+◌, ◌*◌, subst, arith}
use Rattle.qs_machine.specs.Parts.{Changes}
use Rattle.qs_tasks_run.specs.Contexts.{context_bytes}
use Rattle.qs_tasks_machine.proofs.Changes.{taking_some, take_none, take_more, take_all, stack_part, stack_then}
use Rattle.qs_tasks_machine.proofs.contexts.take_back.Goals as goal

pub loop-r-init : goal.loop-r-init
loop-r-init c = take_none c.args.machine.now c.args.from

pub word_at-value-requires : goal.word_at-value-requires
word_at-value-requires c =
    stack_part c.loop-r.machine c.args.from context_bytes (c.args.from + 4 * c.loop-r.r) 4
    (stack_then c.args.machine.now c.loop-r.machine (taking_some c.args.from c.loop-r.r) c.args.from context_bytes c.loop-r.invariant c.requires.stack)
    (omega arith) (omega arith)

pub loop-r-preserved : goal.loop-r-preserved
loop-r-preserved c =
    take_more c.args.machine.now c.loop-r.machine c.set_register.new.self c.args.from c.loop-r.r c.word_at-value.result (omega arith)
    c.loop-r.invariant c.set_register.ensures c.word_at-value.ensures

pub word_at-pc-requires : goal.word_at-pc-requires
word_at-pc-requires c =
    stack_part c.loop-r.machine c.args.from context_bytes c.args.from 4
    (stack_then c.args.machine.now c.loop-r.machine (taking_some c.args.from c.loop-r.r) c.args.from context_bytes c.loop-r.invariant c.requires.stack)
    (omega arith) (omega arith)

pub returns : goal.returns
returns c =
    let all : c.loop-r.r ≡ 32 = omega arith in
    take_all c.args.machine.now c.loop-r.machine c.set_pc.new.self c.args.from c.word_at-pc.result c.requires.no_more
    (subst (λ (n : ℕ). Changes c.args.machine.now c.loop-r.machine (taking_some c.args.from n)) all c.loop-r.invariant)
    c.set_pc.ensures c.word_at-pc.ensures
