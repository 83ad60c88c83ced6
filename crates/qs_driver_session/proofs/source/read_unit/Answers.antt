use Rattle.std.proofs.lemmas.Result.{err_from_is_err_and}
use Rattle.qs_driver_session.proofs.OriginLaws.{unread, refused_text, read_text}
use Rattle.qs_driver_session.proofs.SourceLaws.{text_refused}
use Rattle.qs_driver_session.proofs.source.read_unit.Goals as goal

pub returns-in_err-text-clause-takes : goal.returns-in_err-text-clause-takes
returns-in_err-text-clause-takes g c =
    let p = err_from_is_err_and c.from_residual.result c.from_residual.ensures.1 in
    rw (p.1, p.2) (unread c.args.name.now _ _ _ c.in_err-text.ensures.takes)

pub returns-in_err-typed-clause-reads : goal.returns-in_err-typed-clause-reads
returns-in_err-typed-clause-reads g c =
    let p = err_from_is_err_and c.from_residual-in_err-typed.result c.from_residual-in_err-typed.ensures.1 in
    rw (p.1, p.2) (text_refused _ _ _ _ _ c.in_ok-text.ensures.reads (rw c.deref.ensures.value at c.in_err-typed.ensures))

pub returns-in_err-typed-clause-takes : goal.returns-in_err-typed-clause-takes
returns-in_err-typed-clause-takes g c =
    let p = err_from_is_err_and c.from_residual-in_err-typed.result c.from_residual-in_err-typed.ensures.1 in
    rw (p.1, p.2) (refused_text c.args.name.now _ _ _ _ c.in_ok-text.ensures.takes (rw c.deref.ensures.value at c.in_err-typed.ensures))

pub returns-clause-reads : goal.returns-clause-reads
returns-clause-reads g c = record { text = c.in_ok-text.text.items; read = c.in_ok-text.ensures.reads; typed_as = rw c.deref.ensures.value at c.in_ok-typed.ensures }

pub returns-clause-takes : goal.returns-clause-takes
returns-clause-takes g c = read_text c.args.name.now _ _ _ _ c.in_ok-text.ensures.takes (rw c.deref.ensures.value at c.in_ok-typed.ensures)
