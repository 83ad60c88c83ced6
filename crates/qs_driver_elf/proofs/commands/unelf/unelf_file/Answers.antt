use Rattle.std.proofs.Common.{rules}
use Rattle.std.proofs.lemmas.Result.{err_from_is_err_and}
use Rattle.qs_cli.specs.Commands.{unelf_words}
use Rattle.qs_driver_elf.proofs.UnelfSteps.{one_name, unread, no_image, not_written, was_written}
use Rattle.qs_driver_elf.proofs.commands.unelf.unelf_file.Goals as goal

pub returns-then-eq : goal.returns-then-eq
returns-then-eq g c = one_name (unelf_words c.args.file.now c.args.out.now) _ (search rules)

pub returns-in_err-bytes : goal.returns-in_err-bytes
returns-in_err-bytes g c =
    let p = err_from_is_err_and c.from_residual.result c.from_residual.ensures.1 in
    rw (p.1, p.2) (unread (unelf_words c.args.file.now c.args.out.now) (search rules) _ _ _ c.in_err-bytes.ensures.takes)

pub returns-in_err-image : goal.returns-in_err-image
returns-in_err-image g c =
    let p = err_from_is_err_and c.from_residual-in_err-image.result c.from_residual-in_err-image.ensures.1 in
    rw (p.1, p.2) (no_image (unelf_words c.args.file.now c.args.out.now) (search rules) _ _ _ c.in_ok-bytes.ensures.takes _ (rw c.deref.ensures.value at c.in_err-image.ensures.fault))

pub returns-in_err-write_whole : goal.returns-in_err-write_whole
returns-in_err-write_whole g c =
    let p = err_from_is_err_and c.from_residual-in_err-write_whole.result c.from_residual-in_err-write_whole.ensures.1 in
    rw (p.1, p.2) (not_written (unelf_words c.args.file.now c.args.out.now) (search rules) _ _ _ c.in_ok-bytes.ensures.takes _ (rw c.deref.ensures.value at c.in_ok-image.ensures.image) _ (rw c.deref-2.ensures.value at c.in_err-write_whole.ensures))

pub returns : goal.returns
returns g c = was_written (unelf_words c.args.file.now c.args.out.now) (search rules) _ _ _ c.in_ok-bytes.ensures.takes _ (rw c.deref.ensures.value at c.in_ok-image.ensures.image) _ (rw c.deref-2.ensures.value at c.in_ok-write_whole.ensures)
