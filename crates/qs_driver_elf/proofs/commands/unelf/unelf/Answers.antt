use Rattle.qs_cli.specs.Reading.{unelf_words_of}
use Rattle.qs_driver_elf.proofs.UnelfSteps.{unelf_answers}
use Rattle.qs_driver_elf.proofs.commands.unelf.unelf.Goals as goal

pub returns : goal.returns
returns g c = unelf_answers (unelf_words_of c.args.words.now) _ _ _ _ _ c.unelf_file-work.result _ (rw (c.as_str.ensures.value, c.as_str-2.ensures.value) at c.unelf_file-work.ensures) (rw c.names_of.ensures at c.report_done.ensures)
