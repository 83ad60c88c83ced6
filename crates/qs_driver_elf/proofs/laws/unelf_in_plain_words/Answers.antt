use Rattle.qs_driver_elf.proofs.PlainWords.{unelf_in_plain_words}
use Rattle.qs_driver_elf.proofs.laws.unelf_in_plain_words.Goals as goal

pub returns : goal.returns
returns c = unelf_in_plain_words
