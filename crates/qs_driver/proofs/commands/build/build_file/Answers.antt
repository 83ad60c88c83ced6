use Rattle.std.proofs.Common.{rules}
use Rattle.std.proofs.lemmas.Result.{err_from_is_err_and}
use Rattle.qs_driver.specs.commands.Build.{words_in}
use Rattle.qs_driver.proofs.CertifiedLaws.{has_its_core}
use Rattle.qs_driver.proofs.rooms.Build.{not_certified, not_written, out_of_memory, was_built}
use Rattle.qs_driver.proofs.commands.build.build_file.Goals as goal

pub returns-in_err-certified : goal.returns-in_err-certified
returns-in_err-certified g c =
    let p = err_from_is_err_and c.from_residual.result c.from_residual.ensures.1 in
    let differ = c.names_one_twice.ensures.differ (search rules) in
    rw (p.1, p.2) (not_certified (words_in c.args.order.now) _ _ _ differ (rw c.inputs_of.ensures at c.in_err-certified.ensures.reads))

pub returns-in_err-image : goal.returns-in_err-image
returns-in_err-image g c =
    let p = err_from_is_err_and c.from_residual-in_err-image.result c.from_residual-in_err-image.ensures.1 in
    let differ = c.names_one_twice.ensures.differ (search rules) in
    rw (p.1, p.2) (out_of_memory (words_in c.args.order.now) _ _ _ differ (rw c.inputs_of.ensures at c.in_ok-certified.ensures.reads))

pub returns-in_err-bytes : goal.returns-in_err-bytes
returns-in_err-bytes g c =
    let p = err_from_is_err_and c.from_residual-in_err-bytes.result c.from_residual-in_err-bytes.ensures.1 in
    let differ = c.names_one_twice.ensures.differ (search rules) in
    rw (p.1, p.2) (out_of_memory (words_in c.args.order.now) _ _ _ differ (rw c.inputs_of.ensures at c.in_ok-certified.ensures.reads))

pub returns-in_err-write_whole : goal.returns-in_err-write_whole
returns-in_err-write_whole g c =
    let p = err_from_is_err_and c.from_residual-in_err-write_whole.result c.from_residual-in_err-write_whole.ensures.1 in
    let differ = c.names_one_twice.ensures.differ (search rules) in
    rw (p.1, p.2) (not_written (words_in c.args.order.now) differ (rw c.inputs_of.ensures at c.in_ok-certified.ensures.reads) (c.in_ok-image.ensures c.in_ok-certified.certified.typed (has_its_core c.in_ok-certified.ensures.reads)) c.in_ok-bytes.ensures (rw c.deref.ensures.value at c.in_err-write_whole.ensures))

pub returns : goal.returns
returns g c =
    let differ = c.names_one_twice.ensures.differ (search rules) in
    was_built (words_in c.args.order.now) differ (rw c.inputs_of.ensures at c.in_ok-certified.ensures.reads) (c.in_ok-image.ensures c.in_ok-certified.certified.typed (has_its_core c.in_ok-certified.ensures.reads)) c.in_ok-bytes.ensures (rw c.deref.ensures.value at c.in_ok-write_whole.ensures)
