use Rattle.std.proofs.Common.{ap}
use Rattle.std.proofs.lemmas.Result.{err_from_is_err_and}
use Rattle.qs_image.specs.Image.{Image}
use Rattle.qs_report.specs.Lines.{bound_line}
use Rattle.qs_ports.proofs.Sinks.{cut_before, then_puts}
use Rattle.qs_driver_session.specs.Faults.{shown_of}
use Rattle.qs_driver_session.specs.Lines.{cost_lines}
use Rattle.qs_driver.proofs.commands.bound.put_bounded.Goals as goal

pub returns-in_err-put_costs : goal.returns-in_err-put_costs
returns-in_err-put_costs g c =
    let p = err_from_is_err_and c.from_residual.result c.from_residual.ensures.1 in
    rw p.1 (cut_before _ _ (cost_lines c.args.image.now.functions) (bound_line (shown_of c.args.bound)) c.in_err-put_costs.field-0.0 p.0 (rw (← ap (λ (i : Image). i.functions) c.image.view_is) (rw c.deref.ensures.value at c.in_err-put_costs.ensures)))

pub returns : goal.returns
returns g c = then_puts _ _ _ (rw (← ap (λ (i : Image). i.functions) c.image.view_is) (rw c.deref.ensures.value at c.in_ok-put_costs.ensures)) (rw c.shown_of.ensures at c.put_bound.ensures)
