use Rattle.std.proofs.Common.{◌≡◌, ◌∙◌, length, sym, rules}
use Rattle.std.proofs.lemmas.List.{length-map}
use Rattle.std.proofs.lemmas.Result.{err_from_is_err_and}
use Rattle.qs_typing_findings.proofs.TypedLaws.{is_read}
use Rattle.qs_triples.specs.TreeOf.{entry_tree, proofs_tree}
use Rattle.qs_driver.specs.commands.Derive.{words_in}
use Rattle.qs_driver.proofs.rooms.Derive.{not_certified, not_written, out_of_memory, was_derived}
use Rattle.qs_driver.proofs.commands.derive.derive_proofs.Goals as goal

pub returns-in_err-certified : goal.returns-in_err-certified
returns-in_err-certified g c =
    let p = err_from_is_err_and c.from_residual.result c.from_residual.ensures.1 in
    rw (p.1, p.2) (not_certified (words_in c.args.order.now) _ _ _ (search rules) (rw c.inputs_of.ensures at c.in_err-certified.ensures.reads))

pub returns-in_err-text : goal.returns-in_err-text
returns-in_err-text g c =
    let p = err_from_is_err_and c.from_residual-in_err-text.result c.from_residual-in_err-text.ensures.1 in
    rw (p.1, p.2) (out_of_memory (words_in c.args.order.now) _ _ _ (search rules) (rw c.inputs_of.ensures at c.in_ok-certified.ensures.reads))

pub returns-in_err-write_whole : goal.returns-in_err-write_whole
returns-in_err-write_whole g c =
    let p = err_from_is_err_and c.from_residual-in_err-write_whole.result c.from_residual-in_err-write_whole.ensures.1 in
    rw (p.1, p.2) (not_written (words_in c.args.order.now) (search rules) (rw c.inputs_of.ensures at c.in_ok-certified.ensures.reads) (is_read c.in_ok-certified.certified.typed) c.in_ok-text.ensures.reads (rw c.deref.ensures.value at c.in_err-write_whole.ensures))

pub returns : goal.returns
returns g c =
    let proofs = c.in_ok-certified.certified.certified.proofs in
    let many : c.len.result ≡ length (proofs_tree proofs).functions = c.len.ensures ∙ proofs.functions.ok.0 ∙ sym (length-map proofs.functions.items entry_tree) in
    rw many (was_derived (words_in c.args.order.now) (search rules) (rw c.inputs_of.ensures at c.in_ok-certified.ensures.reads) (is_read c.in_ok-certified.certified.typed) c.in_ok-text.ensures.reads (rw c.deref.ensures.value at c.in_ok-write_whole.ensures))
