use Rattle.std.proofs.lemmas.Result.{err_from_is_err_and}
use Rattle.qs_driver.specs.commands.Sample.{words_in}
use Rattle.qs_driver.proofs.SampleStarts.{samples_start}
use Rattle.qs_driver.proofs.rooms.Sample.{no_text, source_not_written, out_of_memory, has_sampled}
use Rattle.qs_driver.proofs.commands.sample.run_sample.Goals as goal

pub returns-in_err-text : goal.returns-in_err-text
returns-in_err-text g c =
    let p = err_from_is_err_and c.from_residual.result c.from_residual.ensures.1 in
    rw (p.1, p.2) (no_text (words_in c.args.order.now) _)

pub returns-in_err-write_source : goal.returns-in_err-write_source
returns-in_err-write_source g c =
    let p = err_from_is_err_and c.from_residual-in_err-write_source.result c.from_residual-in_err-write_source.ensures.1 in
    rw (p.1, p.2) (source_not_written (words_in c.args.order.now) _ _ _ (rw (c.deref.ensures.value, c.in_ok-text.ensures) at c.in_err-write_source.ensures))

pub returns-in_err-started : goal.returns-in_err-started
returns-in_err-started g c =
    let p = err_from_is_err_and c.from_residual-in_err-started.result c.from_residual-in_err-started.ensures.1 in
    let w = words_in c.args.order.now in
    let starts = rw (c.deref-2.ensures.value, c.in_ok-text.ensures) at c.in_err-started.ensures in
    rw (p.1, p.2) (out_of_memory w _ _ _ (starts (samples_start w.count c.requires)) (rw (c.deref.ensures.value, c.in_ok-text.ensures) at c.in_ok-write_source.ensures))

pub returns : goal.returns
returns g c =
    has_sampled (words_in c.args.order.now) _ _ c.in_ok-started.started c.run_counted.result
    (rw (c.deref.ensures.value, c.in_ok-text.ensures) at c.in_ok-write_source.ensures)
    (rw (c.deref-2.ensures.value, c.in_ok-text.ensures) at c.in_ok-started.ensures) c.run_counted.ensures
