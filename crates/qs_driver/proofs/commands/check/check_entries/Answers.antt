use Rattle.std.proofs.lemmas.Result.{err_from_is_err_and}
use Rattle.qs_driver.specs.Certified.{words_in}
use Rattle.qs_driver.proofs.rooms.Check.{not_certified, not_lowered, was_checked}
use Rattle.qs_driver.proofs.commands.check.check_entries.Goals as goal

pub returns-in_err-unit : goal.returns-in_err-unit
returns-in_err-unit g c =
    let p = err_from_is_err_and c.from_residual.result c.from_residual.ensures.1 in
    rw (p.1, p.2) (not_certified (words_in c.args.order.now) _ _ _ c.in_err-unit.ensures.proves)

pub returns-in_err-lower : goal.returns-in_err-lower
returns-in_err-lower g c =
    let p = err_from_is_err_and c.from_residual-in_err-lower.result c.from_residual-in_err-lower.ensures.1 in
    rw (p.1, p.2) (not_lowered (words_in c.args.order.now) _ _ _ c.in_ok-unit.ensures.proves)

pub returns : goal.returns
returns g c = was_checked (words_in c.args.order.now) _ _ _ c.in_ok-unit.ensures.proves
