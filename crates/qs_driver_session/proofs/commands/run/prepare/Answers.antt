use Rattle.std.proofs.lemmas.Result.{err_from_is_err_and}
use Rattle.qs_driver_session.specs.Starting.{words_in}
use Rattle.qs_driver_session.proofs.rooms.Run.{unread_image, not_loaded, input_stops, is_ready}
use Rattle.qs_driver_session.proofs.commands.run.prepare.Goals as goal

pub returns-in_err-bytes : goal.returns-in_err-bytes
returns-in_err-bytes g c =
    let p = err_from_is_err_and c.from_residual.result c.from_residual.ensures.1 in
    rw (p.1, p.2) (unread_image (words_in c.args.order.now) _ _ _ c.in_err-bytes.ensures.takes)

pub returns-in_err-machine : goal.returns-in_err-machine
returns-in_err-machine g c =
    let p = err_from_is_err_and c.from_residual-in_err-machine.result c.from_residual-in_err-machine.ensures.1 in
    rw (p.1, p.2) (not_loaded (words_in c.args.order.now) _ _ _ _ c.in_ok-bytes.ensures.takes (rw c.deref.ensures.value at c.in_err-machine.ensures))

pub returns-in_err-input : goal.returns-in_err-input
returns-in_err-input g c =
    let p = err_from_is_err_and c.from_residual-in_err-input.result c.from_residual-in_err-input.ensures.1 in
    rw (p.1, p.2) (input_stops (words_in c.args.order.now) _ _ _ _ c.in_ok-bytes.ensures.takes _ (rw c.deref.ensures.value at c.in_ok-machine.ensures) _ c.in_err-input.ensures.takes)

pub returns : goal.returns
returns g c = is_ready (words_in c.args.order.now) _ _ _ _ _ c.in_ok-bytes.ensures.takes (rw c.deref.ensures.value at c.in_ok-machine.ensures) c.in_ok-input.ensures.takes
