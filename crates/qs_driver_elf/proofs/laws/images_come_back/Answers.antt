use Rattle.qs_driver_elf.proofs.PlainWords.{images_come_back}
use Rattle.qs_driver_elf.proofs.laws.images_come_back.Goals as goal

pub returns : goal.returns
returns c = images_come_back
