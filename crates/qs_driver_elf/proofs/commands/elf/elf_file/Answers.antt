use Rattle.std.proofs.Common.{rules}
use Rattle.std.proofs.lemmas.Result.{err_from_is_err_and}
use Rattle.qs_cli.specs.Commands.{elf_words}
use Rattle.qs_driver_session.proofs.SharedSteps.{is_broken, no_image_memory}
use Rattle.qs_driver_elf.proofs.ElfSteps.{one_name, unread, no_executable, not_written, was_written}
use Rattle.qs_driver_elf.proofs.commands.elf.elf_file.Goals as goal

pub returns-then-eq : goal.returns-then-eq
returns-then-eq g c = one_name (elf_words c.args.image.now c.args.out.now) _ (search rules)

pub returns-in_err-bytes : goal.returns-in_err-bytes
returns-in_err-bytes g c =
    let p = err_from_is_err_and c.from_residual.result c.from_residual.ensures.1 in
    rw (p.1, p.2) (unread (elf_words c.args.image.now c.args.out.now) (search rules) _ _ _ c.in_err-bytes.ensures.takes)

pub returns-in_err-read : goal.returns-in_err-read
returns-in_err-read g c =
    let p = err_from_is_err_and c.from_residual-in_err-read.result c.from_residual-in_err-read.ensures.1 in
    rw (p.1, p.2) (no_executable (elf_words c.args.image.now c.args.out.now) (search rules) _ _ _ c.in_ok-bytes.ensures.takes _ (is_broken _ _ _ (rw c.deref.ensures.value at c.in_err-read.ensures.fault)))

pub returns-in_err-file : goal.returns-in_err-file
returns-in_err-file g c =
    let p = err_from_is_err_and c.from_residual-in_err-file.result c.from_residual-in_err-file.ensures.1 in
    rw (p.1, p.2) (no_executable (elf_words c.args.image.now c.args.out.now) (search rules) _ _ _ c.in_ok-bytes.ensures.takes _ (no_image_memory _ _))

pub returns-in_err-write_whole : goal.returns-in_err-write_whole
returns-in_err-write_whole g c =
    let p = err_from_is_err_and c.from_residual-in_err-write_whole.result c.from_residual-in_err-write_whole.ensures.1 in
    rw (p.1, p.2) (not_written (elf_words c.args.image.now c.args.out.now) (search rules) _ _ _ c.in_ok-bytes.ensures.takes _ (rw c.deref.ensures.value at c.in_ok-read.ensures.image) _ (rw c.deref-2.ensures.value at c.in_ok-file.ensures.file) _ (rw c.deref-3.ensures.value at c.in_err-write_whole.ensures))

pub returns : goal.returns
returns g c = was_written (elf_words c.args.image.now c.args.out.now) (search rules) _ _ _ c.in_ok-bytes.ensures.takes _ (rw c.deref.ensures.value at c.in_ok-read.ensures.image) _ (rw c.deref-2.ensures.value at c.in_ok-file.ensures.file) _ (rw c.deref-3.ensures.value at c.in_ok-write_whole.ensures)
