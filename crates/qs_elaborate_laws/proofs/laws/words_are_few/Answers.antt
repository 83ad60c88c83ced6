use Rattle.qs_elaborate_laws.proofs.WordFunctions.{words_are_few}
use Rattle.qs_elaborate_laws.proofs.laws.words_are_few.Goals as goal

pub returns : goal.returns
returns c = words_are_few
