use Rattle.std.proofs.Common.{None, ◌≡◌, rules, ◌∙◌, sym}
use Rattle.qs_machine.proofs.Memories.{read-code, read-data, read-stack, read-nowhere}
use Rattle.qs_machine.proofs.memory.Memory.readable.Goals as goal

pub returns-then-hold : goal.returns-then-hold
returns-then-hold c = read-stack c.args.self.now c.args.address c.args.width c.read.result.now (sym c.hold.ensures ∙ c.if-hold.true) c.read.ensures

pub returns-then-hold-2 : goal.returns-then-hold-2
returns-then-hold-2 c = read-data c.args.self.now c.args.address c.args.width c.read-then-hold-2.result.now (sym c.hold-2.ensures ∙ c.if-hold-2.true) c.read-then-hold-2.ensures

pub returns-in_err-at : goal.returns-in_err-at
returns-in_err-at c =
    let none : c.from_residual.result ≡ None = search rules in
    rw none (read-nowhere c.args.self.now c.len.result c.args.address c.args.width (search rules) (sym c.hold.ensures ∙ c.if-hold.false) (sym c.hold-2.ensures ∙ c.if-hold-2.false) c.in_err-at.ensures)

pub returns : goal.returns
returns c = read-code c.args.self.now c.len.result c.args.address c.args.width c.in_ok-at.at c.deref.result.now (search rules) c.deref.ensures.value c.in_ok-at.ensures
