use Rattle.std.proofs.Common.{ℕ, List, ap, subst}
use Rattle.std.proofs.lemmas.Result.{err_from_is_err_and}
use Rattle.qs_compile.specs.Agree.{IsInput}
use Rattle.qs_driver_session.specs.Starting.{RunWords}
use Rattle.qs_driver.specs.commands.Exec.{words_in}
use Rattle.qs_driver.proofs.rooms.Exec.{has_started, input_is_refused, no_stack, not_loaded, not_made}
use Rattle.qs_driver.proofs.commands.exec.start_source.Goals as goal

pub returns-in_err-made : goal.returns-in_err-made
returns-in_err-made g c =
    let p = err_from_is_err_and c.from_residual.result c.from_residual.ensures.1 in
    rw (p.1, p.2) (not_made (words_in c.args.order.now) _ _ _ (rw c.inputs_of.ensures at c.in_err-made.ensures))

pub returns-in_err-stack : goal.returns-in_err-stack
returns-in_err-stack g c =
    let p = err_from_is_err_and c.from_residual-in_err-stack.result c.from_residual-in_err-stack.ensures.1 in
    rw (p.1, p.2) (no_stack (words_in c.args.order.now) _ _ _ _ (rw c.inputs_of.ensures at c.in_ok-made.ensures) c.in_err-stack.ensures)

pub returns-in_err-machine : goal.returns-in_err-machine
returns-in_err-machine g c =
    let p = err_from_is_err_and c.from_residual-in_err-machine.result c.from_residual-in_err-machine.ensures.1 in
    rw (p.1, p.2) (not_loaded (words_in c.args.order.now) _ _ _ _ _ (rw c.inputs_of.ensures at c.in_ok-made.ensures) c.in_ok-stack.ensures (rw c.run_order-run.ensures at c.in_err-machine.ensures))

pub returns-in_err-input : goal.returns-in_err-input
returns-in_err-input g c =
    let p = err_from_is_err_and c.from_residual-in_err-input.result c.from_residual-in_err-input.ensures.1 in
    rw (p.1, p.2) (input_is_refused (words_in c.args.order.now) _ _ _ _ _ _ (rw c.inputs_of.ensures at c.in_ok-made.ensures) c.in_ok-stack.ensures (rw (ap (λ (r : RunWords). r.input) c.run_order-run.ensures) at c.in_err-input.ensures.reads))

pub returns : goal.returns
returns g c =
    has_started (words_in c.args.order.now) _ _ _ _ _ _ (rw c.inputs_of.ensures at c.in_ok-made.ensures) c.in_ok-stack.ensures (rw c.run_order-run.ensures at c.in_ok-machine.ensures) (rw (ap (λ (r : RunWords). r.input) c.run_order-run.ensures) at c.in_ok-input.ensures.reads)
    (subst (λ (bytes : List ℕ). IsInput bytes) c.deref.ensures.value c.consists_of_bytes.ensures)
