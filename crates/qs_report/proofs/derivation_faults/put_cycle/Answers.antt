use Rattle.std.proofs.Common.{codes, flat_map, ◌∷◌, []}
use Rattle.std.proofs.lemmas.Result.{err_from_is_err_and}
use Rattle.qs_ports.proofs.Sinks.{cut_before, then_puts}
use Rattle.qs_report.specs.Words.{spaced}
use Rattle.qs_report.specs.Lines.{line}
use Rattle.qs_report.proofs.derivation_faults.put_cycle.Goals as goal

pub returns-in_err-put_all : goal.returns-in_err-put_all
returns-in_err-put_all g c =
    let p = err_from_is_err_and c.from_residual.result c.from_residual.ensures.1 in
    rw p.1 (cut_before _ _ (codes "recursion without derivation:") (line (flat_map spaced c.args.names.now ∷ [])) c.in_err-put_all.field-0.0 p.0 c.in_err-put_all.ensures)

pub returns : goal.returns
returns g c = then_puts _ _ _ c.in_ok-put_all.ensures c.put_last_names.ensures
