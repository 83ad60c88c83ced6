use Rattle.std.proofs.Common.{◌≡◌, ◌%◌, true, false, refl, rules, sym, ◌∙◌}
use Rattle.qs_machine.specs.State.{can_write}
use Rattle.qs_machine.specs.Step.{store_width, stored}
use Rattle.qs_machine.specs.Hart.{memory_of}
use Rattle.qs_machine.specs.Standing.{state_of}
use Rattle.qs_machine.proofs.Choices.{store-written, store-outside, can_write-loaded}
use Rattle.qs_machine.proofs.StepParts.{did_next, same_machine}
use Rattle.qs_machine.proofs.machine.Machine.store.Goals as goal

pub returns-then-not-store-clause-does : goal.returns-then-not-store-clause-does
returns-then-not-store-clause-does c = λ input image size output l.
    let m = c.args.self.now in
    let s = state_of m input output in
    let aligned : c.args.address % store_width c.args.kind ≡ 0 = rw (← c.store_width.ensures) c.if-address-store_width-ne0.false in
    let outside : can_write image size c.args.address (store_width c.args.kind) ≡ false = sym (can_write-loaded m image size c.args.address (store_width c.args.kind) l) ∙ sym c.store.ensures.done ∙ c.if-not-store.true in
    rw (store-outside image size s c.args.kind c.args.address c.args.value aligned outside, c.trap-then-not-store.ensures, c.store.ensures.refused c.if-not-store.true) (refl, refl, same_machine m _)

pub returns-clause-does : goal.returns-clause-does
returns-clause-does c = λ input image size output l.
    let m = c.args.self.now in
    let s = state_of m input output in
    let aligned : c.args.address % store_width c.args.kind ≡ 0 = rw (← c.store_width.ensures) c.if-address-store_width-ne0.false in
    let inside : can_write image size c.args.address (store_width c.args.kind) ≡ true = sym (can_write-loaded m image size c.args.address (store_width c.args.kind) l) ∙ sym c.store.ensures.done ∙ c.if-not-store.false in
    let after : memory_of c.store.new.self ≡ stored c.args.kind (memory_of m.memory) c.args.address c.args.value = c.store.ensures.stored (search rules) in
    rw (store-written image size s c.args.kind c.args.address c.args.value aligned inside, ← c.next_pc-next.ensures, ← after)
    (did_next m _ c.go_to.new.self image size input output _ c.go_to.result refl
    (c.go_to.ensures.does input image size output (record { instructions = l.instructions; code = c.store.ensures.code ∙ l.code; bytes = c.store.ensures.data_end ∙ l.bytes; stack = c.store.ensures.stack_start ∙ l.stack })))
