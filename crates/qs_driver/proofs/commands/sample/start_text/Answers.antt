use Rattle.std.proofs.Common.{◌∙◌, Ok, ap, subst}
use Rattle.std.proofs.lemmas.Result.{err_from_is_err_and}
use Rattle.qs_typing_findings.proofs.TypedLaws.{is_read}
use Rattle.qs_elaborate_bodies.specs.Units.{core_of}
use Rattle.qs_driver_session.specs.Starting.{RunWords, LoadsImage}
use Rattle.qs_driver.specs.declared.commands.sample.SampleStart.{SampleStart}
use Rattle.qs_driver.proofs.rooms.Sample.{has_started}
use Rattle.qs_driver.proofs.SampleStarts.{not_refused, not_uncertified, not_unmade, not_without_stack, not_unloaded}
use Rattle.qs_driver.proofs.commands.sample.start_text.Goals as goal

pub returns : goal.returns
returns c =
    let started : SampleStart = record { functions = c.count_functions.result; stack = c.in_ok-stack.stack; machine = c.in_ok-machine.machine } in
    let loads = subst (λ (r : RunWords). LoadsImage c.in_ok-made.made.image r (Ok started.machine)) c.run_order.ensures c.in_ok-machine.ensures in
    has_started started c.in_ok-typed.ensures (is_read c.in_ok-typed.typed) c.in_ok-certified.ensures c.in_ok-made.ensures c.in_ok-stack.ensures loads c.count_functions.ensures

pub returns-in_err-typed : goal.returns-in_err-typed
returns-in_err-typed c =
    let p = err_from_is_err_and c.from_residual.result c.from_residual.ensures.1 in
    rw (p.1, p.2) (not_refused _ _ c.in_err-typed.ensures)

pub returns-in_err-certified : goal.returns-in_err-certified
returns-in_err-certified c =
    let p = err_from_is_err_and c.from_residual-in_err-certified.result c.from_residual-in_err-certified.ensures.1 in
    rw (p.1, p.2) (not_uncertified _ c.in_ok-typed.ensures c.in_err-certified.ensures)

pub returns-in_err-made : goal.returns-in_err-made
returns-in_err-made c =
    let p = err_from_is_err_and c.from_residual-in_err-made.result c.from_residual-in_err-made.ensures.1 in
    rw (p.1, p.2) (not_unmade _ c.in_ok-typed.ensures (is_read c.in_ok-typed.typed) c.in_ok-certified.ensures c.in_err-made.ensures)

pub returns-in_err-stack : goal.returns-in_err-stack
returns-in_err-stack c =
    let p = err_from_is_err_and c.from_residual-in_err-stack.result c.from_residual-in_err-stack.ensures.1 in
    rw (p.1, p.2) (not_without_stack _ c.in_ok-typed.ensures (is_read c.in_ok-typed.typed) c.in_ok-certified.ensures c.in_ok-made.ensures c.in_err-stack.ensures)

pub returns-in_err-machine : goal.returns-in_err-machine
returns-in_err-machine c =
    let p = err_from_is_err_and c.from_residual-in_err-machine.result c.from_residual-in_err-machine.ensures.1 in
    rw (p.1, p.2) (λ can. not_unloaded _ _ _ c.run_order.ensures c.in_ok-made.ensures c.in_ok-stack.ensures c.in_err-machine.ensures)

pub make_certified-requires : goal.make_certified-requires
make_certified-requires c = ap core_of c.in_ok-certified.ensures.unit_is ∙ c.in_ok-certified.ensures.core_is
