use Rattle.qs_asm.proofs.LaidLaws.{laid}
use Rattle.qs_asm.proofs.laws.items_are_laid_one_after_the_other.Goals as goal

pub returns : goal.returns
returns c at place from a b to = laid at place from a b to
