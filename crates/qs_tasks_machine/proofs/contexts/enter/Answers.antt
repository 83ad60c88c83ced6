use Rattle.std.proofs.Common.{ℕ, ◌-◌, ap}
use Rattle.qs_tasks_run.specs.Contexts.{context_bytes}
use Rattle.qs_tasks_machine.proofs.Changes.{enters}
use Rattle.qs_tasks_machine.proofs.contexts.enter.Goals as goal

pub store-requires : goal.store-requires
store-requires c = rw (c.register-from.ensures) c.requires.stack

pub returns : goal.returns
returns c =
    enters c.args.machine.now c.store.new.machine c.set_pc.new.self c.set_register.new.self c.set_register-2.new.self (c.register-from.result - context_bytes) c.args.entry
    (ap (λ (n : ℕ). n - context_bytes) c.register-from.ensures)
    c.store.ensures c.set_pc.ensures c.set_register.ensures c.set_register-2.ensures
