use Rattle.std.proofs.Common.{◌≡◌, true, sym, ◌∙◌, rules}
use Rattle.qs_machine.specs.Step.{store_width}
use Rattle.qs_machine.specs.Hart.{lies_in}
use Rattle.qs_machine.proofs.Memories.{store-data, store-stack}
use Rattle.qs_machine.proofs.memory.Memory.store.Goals as goal

pub returns-then-hold-clause-stored : goal.returns-then-hold-clause-stored
returns-then-hold-clause-stored c = λ done.
    let holds : lies_in c.args.self.now.stack c.args.address (store_width c.args.kind) ≡ true = rw (← c.store_width-width.ensures) (sym c.hold.ensures ∙ c.if-hold.true) in
    store-stack c.args.self.now c.write.new.self c.args.kind c.args.address c.args.value holds c.write.ensures

pub returns-then-hold-2-clause-stored : goal.returns-then-hold-2-clause-stored
returns-then-hold-2-clause-stored c = λ done.
    let holds : lies_in c.args.self.now.data c.args.address (store_width c.args.kind) ≡ true = rw (← c.store_width-width.ensures) (sym c.hold-2.ensures ∙ c.if-hold-2.true) in
    store-data c.args.self.now c.write-then-hold-2.new.self c.args.kind c.args.address c.args.value holds c.write-then-hold-2.ensures
