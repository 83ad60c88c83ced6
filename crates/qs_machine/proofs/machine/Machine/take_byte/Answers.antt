use Rattle.std.proofs.Common.{◌≡◌, ◌+◌, ◌<◌, suc, [], ◌∷◌, drop, length, ap, sym, arith}
use Rattle.std.proofs.Math.Seq.{drop-cons}
use Rattle.std.proofs.Math.ListN.{drop_of_length-le}
use Rattle.qs_machine.specs.State.{State}
use Rattle.qs_machine.specs.Step.{Next}
use Rattle.qs_machine.proofs.machine.Machine.take_byte.Goals as goal

pub returns-then-self-input-clause-does : goal.returns-then-self-input-clause-does
returns-then-self-input-clause-does c = λ image size output l.
    let none : drop c.args.self.now.taken c.args.input.now ≡ [] = drop_of_length-le c.args.input.now (omega arith) in
    rw none (ap (λ (s : State). Next s) (sym (c.answer.ensures.answers c.args.input.now output)), c.answer.ensures.loaded image size l, c.answer.ensures.ended)

pub returns-else-self-input-clause-does : goal.returns-else-self-input-clause-does
returns-else-self-input-clause-does c = λ image size output l.
    let input = c.args.input.now in
    let taken = c.args.self.now.taken in
    let lt : taken < length input = omega arith in
    let after = c.answer-else-self-input.new.self.taken + 1 in
    let next : after ≡ suc taken = omega arith in
    let some : drop taken input ≡ c.from.result ∷ drop after input = rw (next, c.from.ensures) (drop-cons input taken 0 lt) in
    let loaded = c.answer-else-self-input.ensures.loaded image size l in
    rw some (ap (λ (s : State). Next (record s { input = drop after input })) (sym (c.answer-else-self-input.ensures.answers input output)), record { instructions = loaded.instructions; code = loaded.code; bytes = loaded.bytes; stack = loaded.stack }, c.answer-else-self-input.ensures.ended)
