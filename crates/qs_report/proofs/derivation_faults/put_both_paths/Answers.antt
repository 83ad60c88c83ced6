use Rattle.std.proofs.Common.{codes}
use Rattle.std.proofs.lemmas.Result.{err_from_is_err_and}
use Rattle.qs_ports.proofs.Sinks.{cut_before, then_puts}
use Rattle.qs_report.specs.Words.{path_after}
use Rattle.qs_report.proofs.derivation_faults.put_both_paths.Goals as goal

pub returns-in_err-put_path_after : goal.returns-in_err-put_path_after
returns-in_err-put_path_after g c =
    let p = err_from_is_err_and c.from_residual.result c.from_residual.ensures.1 in
    rw p.1 (cut_before _ _ (path_after (codes "body ") c.args.node.now) (path_after (codes " cert ") c.args.path.now) c.in_err-put_path_after.field-0.0 p.0 c.in_err-put_path_after.ensures)

pub returns : goal.returns
returns g c = then_puts _ (path_after (codes " cert ") c.args.path.now) _ c.in_ok-put_path_after.ensures c.put_path_after-2.ensures
