use Rattle.std.proofs.Common.{refl}
use Rattle.std.proofs.lemmas.Result.{err_from_is_err_and}
use Rattle.qs_report.specs.Words.{step_text}
use Rattle.qs_report.proofs.PartsLaws.{part_cut}
use Rattle.qs_report.proofs.derivation_faults.put_steps.Goals as goal

pub returns-in_err-put_step : goal.returns-in_err-put_step
returns-in_err-put_step g c =
    let p = err_from_is_err_and c.from_residual.result c.from_residual.ensures.1 in
    rw p.1 (part_cut step_text c.args.steps.now c.loop-part.part-index _ _ _ _ _ c.in_err-put_step.field-0.0 p.0 refl c.loop-part-test.true c.loop-part.invariant c.in_err-put_step.ensures)
