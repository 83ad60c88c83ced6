use Rattle.std.proofs.Common.{◌++◌, Err}
use Rattle.std.proofs.lemmas.Result.{err_from_is_err_and}
use Rattle.qs_report.specs.Lines.{bound_line, count_line, end_line}
use Rattle.qs_report.specs.declared.fault_texts.Count.TheVariants.{Functions, Output}
use Rattle.qs_report.specs.declared.fault_texts.Shown.TheVariants.{Number}
use Rattle.qs_ports.proofs.Sinks.{appends_more, cut_before, then_puts}
use Rattle.qs_driver.proofs.commands.sample.put_counted.Goals as goal

pub returns-in_err-put_count : goal.returns-in_err-put_count
returns-in_err-put_count g c =
    let p = err_from_is_err_and c.from_residual.result c.from_residual.ensures.1 in
    let end = c.args.end in
    let functions = count_line (Functions end.functions) in
    let bound = bound_line (Number end.stack) in
    let output = count_line (Output end.output) in
    let fault = c.in_err-put_count.field-0.0 in
    rw p.1 (cut_before _ _ (functions ++ bound ++ output) (end_line end.status) fault p.0
    (cut_before _ _ (functions ++ bound) output fault fault (cut_before _ _ functions bound fault fault c.in_err-put_count.ensures)))

pub returns-in_err-put_bound : goal.returns-in_err-put_bound
returns-in_err-put_bound g c =
    let p = err_from_is_err_and c.from_residual-in_err-put_bound.result c.from_residual-in_err-put_bound.ensures.1 in
    let end = c.args.end in
    let functions = count_line (Functions end.functions) in
    let bound = bound_line (Number end.stack) in
    let output = count_line (Output end.output) in
    let fault = c.in_err-put_bound.field-0.0 in
    rw p.1 (cut_before _ _ (functions ++ bound ++ output) (end_line end.status) fault p.0
    (cut_before _ _ (functions ++ bound) output fault fault
    (then_puts _ bound (Err fault) c.in_ok-put_count.ensures (rw c.from.ensures at c.in_err-put_bound.ensures))))

pub returns-in_err-put_count-2 : goal.returns-in_err-put_count-2
returns-in_err-put_count-2 g c =
    let p = err_from_is_err_and c.from_residual-in_err-put_count-2.result c.from_residual-in_err-put_count-2.ensures.1 in
    let end = c.args.end in
    let functions = count_line (Functions end.functions) in
    let bound = bound_line (Number end.stack) in
    let output = count_line (Output end.output) in
    let fault = c.in_err-put_count-2.field-0.0 in
    rw p.1 (cut_before _ _ (functions ++ bound ++ output) (end_line end.status) fault p.0
    (then_puts _ output (Err fault) (appends_more c.in_ok-put_count.ensures (rw c.from.ensures at c.in_ok-put_bound.ensures)) c.in_err-put_count-2.ensures))

pub returns : goal.returns
returns g c =
    then_puts _ (end_line c.args.end.status) _
    (appends_more (appends_more c.in_ok-put_count.ensures (rw c.from.ensures at c.in_ok-put_bound.ensures)) c.in_ok-put_count-2.ensures)
    c.put_end.ensures
