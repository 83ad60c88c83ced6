use Rattle.std.proofs.lemmas.Result.{err_from_is_err_and}
use Rattle.qs_typing_findings.proofs.TypedLaws.{is_read}
use Rattle.qs_driver.specs.commands.Outline.{words_in}
use Rattle.qs_driver.proofs.rooms.Outline.{no_source, out_of_memory, was_outlined}
use Rattle.qs_driver.proofs.commands.outline.outline_text.Goals as goal

pub returns-in_err-typed : goal.returns-in_err-typed
returns-in_err-typed g c =
    let p = err_from_is_err_and c.from_residual.result c.from_residual.ensures.1 in
    rw (p.1, p.2) (no_source (words_in c.args.order.now) _ _ _ c.in_err-typed.ensures.takes)

pub returns-in_err-core : goal.returns-in_err-core
returns-in_err-core g c =
    let p = err_from_is_err_and c.from_residual-in_err-core.result c.from_residual-in_err-core.ensures.1 in
    rw (p.1, p.2) (out_of_memory (words_in c.args.order.now) _ _ _ c.in_ok-typed.ensures.takes)

pub returns-in_err-text : goal.returns-in_err-text
returns-in_err-text g c =
    let p = err_from_is_err_and c.from_residual-in_err-text.result c.from_residual-in_err-text.ensures.1 in
    rw (p.1, p.2) (out_of_memory (words_in c.args.order.now) _ _ _ c.in_ok-typed.ensures.takes)

pub returns : goal.returns
returns g c = was_outlined (words_in c.args.order.now) _ _ _ _ c.in_ok-text.text c.in_ok-typed.ensures.takes (is_read c.in_ok-typed.typed) c.in_ok-core.ensures c.in_ok-text.ensures
