use Rattle.std.proofs.Common.{◌≡◌, ℕ, ◌+◌, subst, arith}
use Rattle.qs_machine.specs.Parts.{Changes}
use Rattle.qs_tasks_run.specs.Contexts.{context_bytes}
use Rattle.qs_tasks_machine.proofs.Changes.{storing_some, store_none, store_more, store_all, in_stack, stack_then}
use Rattle.qs_tasks_machine.proofs.contexts.store.Goals as goal

pub loop-i-init : goal.loop-i-init
loop-i-init c = store_none c.args.machine.now c.args.from

pub set_stack_byte-requires : goal.set_stack_byte-requires
set_stack_byte-requires c =
    in_stack c.loop-i.machine c.args.from context_bytes (c.args.from + c.loop-i.i)
    (stack_then c.args.machine.now c.loop-i.machine (storing_some c.args.from c.loop-i.i) c.args.from context_bytes c.loop-i.invariant c.requires)
    (omega arith) (omega arith)

pub loop-i-preserved : goal.loop-i-preserved
loop-i-preserved c =
    store_more c.args.machine.now c.loop-i.machine c.set_stack_byte.new.self c.args.from c.loop-i.i c.context_word-word.result c.byte_of_word.result
    c.loop-i.invariant c.set_stack_byte.ensures c.context_word-word.ensures c.byte_of_word.ensures

pub returns : goal.returns
returns c =
    let all : c.loop-i.i ≡ context_bytes = omega arith in
    store_all c.args.machine.now c.loop-i.machine c.args.from
    (subst (λ (n : ℕ). Changes c.args.machine.now c.loop-i.machine (storing_some c.args.from n)) all c.loop-i.invariant)
