use Rattle.std.proofs.Common.{sym, ap, ◌∙◌}
use Rattle.qs_machine.specs.State.{State}
use Rattle.qs_machine.specs.Step.{step}
use Rattle.qs_machine.proofs.StepParts.{goes, goes_on, ends}
use Rattle.qs_machine.proofs.machine.Machine.advance.Goals as goal

pub returns-in-Going-clause-steps : goal.returns-in-Going-clause-steps
returns-in-Going-clause-steps c = λ image size s stands.
    let did = c.in-Going.ensures.does image size s.output stands.loaded in
    goes c.args.self.now _ image size c.args.input.now s stands did.0 did.1 did.2

pub returns-in-Put-clause-steps : goal.returns-in-Put-clause-steps
returns-in-Put-clause-steps c = λ image size s stands.
    let did = c.in-Put.ensures.does image size s.output stands.loaded in
    goes_on c.args.self.now _ image size c.args.input.now s _ stands did.0 did.1 did.2

pub returns-in-Exited-clause-steps : goal.returns-in-Exited-clause-steps
returns-in-Exited-clause-steps c = λ image size s stands.
    let did = c.in-Exited.ensures.does image size s.output stands.loaded in
    (ap (step image size) stands.at ∙ did.0, ends c.args.self.now _ _ _ did.1)

pub returns-in-Trapped-clause-steps : goal.returns-in-Trapped-clause-steps
returns-in-Trapped-clause-steps c = λ image size s stands.
    let did = c.in-Trapped.ensures.does image size s.output stands.loaded in
    (ap (step image size) stands.at ∙ did.0, did.1 ∙ ap (λ (x : State). x.pc) (sym stands.at), ends c.args.self.now _ _ _ did.2)
