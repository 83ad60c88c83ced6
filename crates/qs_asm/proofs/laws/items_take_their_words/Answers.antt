use Rattle.qs_asm.proofs.LaidLaws.{takes_words}
use Rattle.qs_asm.proofs.laws.items_take_their_words.Goals as goal

pub returns : goal.returns
returns c at place from items to h = takes_words at place from items to h
