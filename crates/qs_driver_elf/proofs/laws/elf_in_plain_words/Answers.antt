use Rattle.qs_driver_elf.proofs.PlainWords.{elf_in_plain_words}
use Rattle.qs_driver_elf.proofs.laws.elf_in_plain_words.Goals as goal

pub returns : goal.returns
returns c = elf_in_plain_words
