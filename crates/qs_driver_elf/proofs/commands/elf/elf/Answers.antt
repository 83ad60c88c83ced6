use Rattle.qs_cli.specs.Reading.{elf_words_of}
use Rattle.qs_driver_elf.proofs.ElfSteps.{elf_answers}
use Rattle.qs_driver_elf.proofs.commands.elf.elf.Goals as goal

pub returns : goal.returns
returns g c = elf_answers (elf_words_of c.args.words.now) _ _ _ _ _ c.elf_file-work.result _ (rw (c.as_str.ensures.value, c.as_str-2.ensures.value) at c.elf_file-work.ensures) (rw c.names_of.ensures at c.report_done.ensures)
