use Rattle.std.proofs.lemmas.Result.{err_from_is_err_and}
use Rattle.qs_typing_findings.proofs.TypedLaws.{is_read}
use Rattle.qs_driver.specs.Certified.{words_in}
use Rattle.qs_driver.proofs.CertifiedLaws.{no_source, unread_proof, certified_or_told}
use Rattle.qs_driver.proofs.ProvedReads as steps
use Rattle.qs_driver.proofs.certified.read_certified.Goals as goal

pub returns-in_err-typed-clause-reads : goal.returns-in_err-typed-clause-reads
returns-in_err-typed-clause-reads g c =
    let p = err_from_is_err_and c.from_residual.result c.from_residual.ensures.1 in
    rw (p.1, p.2) (no_source (words_in c.args.order.now) _ _ _ c.in_err-typed.ensures.reads)

pub returns-in_err-typed-clause-proves : goal.returns-in_err-typed-clause-proves
returns-in_err-typed-clause-proves g c =
    let p = err_from_is_err_and c.from_residual.result c.from_residual.ensures.1 in
    rw (p.1, p.2) (steps.no_source (words_in c.args.order.now) _ _ _ c.in_err-typed.ensures.takes)

pub returns-in_err-file-clause-reads : goal.returns-in_err-file-clause-reads
returns-in_err-file-clause-reads g c =
    let p = err_from_is_err_and c.from_residual-in_err-file.result c.from_residual-in_err-file.ensures.1 in
    rw (p.1, p.2) (unread_proof (words_in c.args.order.now) _ _ _ _ c.in_ok-typed.ensures.reads c.in_err-file.ensures.reads)

pub returns-in_err-file-clause-proves : goal.returns-in_err-file-clause-proves
returns-in_err-file-clause-proves g c =
    let p = err_from_is_err_and c.from_residual-in_err-file.result c.from_residual-in_err-file.ensures.1 in
    rw (p.1, p.2) (steps.unread_proof (words_in c.args.order.now) _ _ _ _ _ c.in_ok-typed.ensures.takes c.in_err-file.ensures.takes)

pub returns-clause-reads : goal.returns-clause-reads
returns-clause-reads g c = certified_or_told (words_in c.args.order.now) _ _ _ c.in_ok-file.file c.certify_typed.result (is_read c.in_ok-typed.typed) c.in_ok-typed.ensures.reads c.in_ok-file.ensures.reads (rw c.text_in.ensures at c.certify_typed.ensures)

pub returns-clause-proves : goal.returns-clause-proves
returns-clause-proves g c = steps.proved_or_told (words_in c.args.order.now) _ _ _ _ c.in_ok-file.file c.certify_typed.result (is_read c.in_ok-typed.typed) c.in_ok-typed.ensures.takes c.in_ok-file.ensures.takes (rw c.text_in.ensures at c.certify_typed.ensures)
