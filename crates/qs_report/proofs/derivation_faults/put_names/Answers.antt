use Rattle.std.proofs.lemmas.Result.{err_from_is_err_and}
use Rattle.qs_report.specs.Words.{spaced}
use Rattle.qs_report.proofs.PartsLaws.{part_cut, all_put}
use Rattle.qs_report.proofs.derivation_faults.put_names.Goals as goal

pub returns-in_err-put_name : goal.returns-in_err-put_name
returns-in_err-put_name g c =
    let p = err_from_is_err_and c.from_residual.result c.from_residual.ensures.1 in
    rw p.1 (part_cut spaced c.args.names.now c.loop-name.name-index c.name-item.result _ _ _ _ c.in_err-put_name.field-0.0 p.0 c.name-item.is c.loop-name-test.true c.loop-name.invariant c.in_err-put_name.ensures)

pub returns : goal.returns
returns g c = all_put spaced c.args.names.now c.loop-name.name-index _ _ c.loop-name-test.false c.loop-name.invariant
