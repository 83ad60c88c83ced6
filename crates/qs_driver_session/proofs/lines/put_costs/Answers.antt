use Rattle.std.proofs.lemmas.Result.{err_from_is_err_and}
use Rattle.qs_driver_session.specs.Lines.{record_line}
use Rattle.qs_report.proofs.PartsLaws.{part_cut, all_put}
use Rattle.qs_driver_session.proofs.lines.put_costs.Goals as goal

pub returns-in_err-put_record : goal.returns-in_err-put_record
returns-in_err-put_record g c =
    let p = err_from_is_err_and c.from_residual.result c.from_residual.ensures.1 in
    rw p.1 (part_cut record_line c.args.functions.now c.loop-function.function-index c.function-item.result _ _ _ _ c.in_err-put_record.field-0.0 p.0 c.function-item.is c.loop-function-test.true c.loop-function.invariant c.in_err-put_record.ensures)

pub returns : goal.returns
returns g c = all_put record_line c.args.functions.now c.loop-function.function-index _ _ c.loop-function-test.false c.loop-function.invariant
