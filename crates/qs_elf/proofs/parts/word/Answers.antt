use Rattle.std.proofs.Common.{arith}
use Rattle.std.proofs.lemmas.Grind.{common_steps}
use Rattle.qs_image.specs.Bytes.{number}
use Rattle.qs_elf.proofs.parts.word.Goals as goal

pub returns : goal.returns
unfolding number
returns c = grind (arith, common_steps)
