use Rattle.std.proofs.Common.{◌≡◌, Option, Some, sym, ◌∙◌, ap}
use Rattle.std.specs.Option.{option_map}
use Rattle.qs_isa.specs.declared.instruction.Instr.{Instr}
use Rattle.qs_isa.specs.Table.{decode_of}
use Rattle.qs_machine.specs.Step.{fetch}
use Rattle.qs_machine.specs.Standing.{state_of}
use Rattle.qs_machine.proofs.StepParts.{step-acts}
use Rattle.qs_machine.proofs.machine.Machine.take_step.Goals as goal

pub returns-in-Some-Some-clause-does : goal.returns-in-Some-Some-clause-does
returns-in-Some-Some-clause-does c = λ image size output l.
    let s = state_of c.args.self.now c.args.input.now output in
    let f : c.fetch.result ≡ option_map decode_of (fetch image s.pc) = c.fetch.ensures.fetched image (c.deref.ensures.value ∙ l.instructions) in
    let found = ap (λ (x : Option Instr). Some x) (sym c.in-Some-Some.field-0-is) ∙ sym c.in-Some-Some.is ∙ f in
    rw (step-acts image size s c.in-Some-Some.instruction found) (c.act.ensures.does image size output l)
