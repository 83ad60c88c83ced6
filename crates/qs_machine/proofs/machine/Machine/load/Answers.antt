use Rattle.std.proofs.Common.{◌≡◌, true, false, rules, sym, ◌∙◌, ◌%◌}
use Rattle.qs_machine.specs.State.{can_read}
use Rattle.qs_machine.specs.Step.{load_width}
use Rattle.qs_machine.specs.Standing.{state_of}
use Rattle.qs_machine.proofs.Choices.{found, not_found, load-read, load-outside, can_read-loaded}
use Rattle.qs_machine.proofs.machine.Machine.load.Goals as goal

pub returns-in-Some-clause-does : goal.returns-in-Some-clause-does
returns-in-Some-clause-does c = λ input image size output l.
    let s = state_of c.args.self.now input output in
    let f = found _ _ _ c.in-Some.ensures in
    let aligned : c.args.address % load_width c.args.kind ≡ 0 = rw (← c.load_width.ensures) c.if-address-load_width-ne0.false in
    let reads : can_read image size c.args.address (load_width c.args.kind) ≡ true = sym (can_read-loaded c.args.self.now image size c.args.address (load_width c.args.kind) l) ∙ f.holds in
    rw (load-read image size s c.args.kind c.args.rd c.args.address aligned reads, ← f.is) (c.write.ensures.does input image size output l)

pub returns-in-None-clause-does : goal.returns-in-None-clause-does
returns-in-None-clause-does c = λ input image size output l.
    let s = state_of c.args.self.now input output in
    let f = not_found _ _ c.in-None.ensures in
    let aligned : c.args.address % load_width c.args.kind ≡ 0 = rw (← c.load_width.ensures) c.if-address-load_width-ne0.false in
    let outside : can_read image size c.args.address (load_width c.args.kind) ≡ false = sym (can_read-loaded c.args.self.now image size c.args.address (load_width c.args.kind) l) ∙ f in
    rw (load-outside image size s c.args.kind c.args.rd c.args.address aligned outside, c.trap-in-None.ensures) (search rules)
