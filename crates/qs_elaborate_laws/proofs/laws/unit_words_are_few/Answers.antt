use Rattle.qs_elaborate_laws.proofs.WordFunctions.{unit_words_are_few}
use Rattle.qs_elaborate_laws.proofs.laws.unit_words_are_few.Goals as goal

pub returns : goal.returns
returns c = unit_words_are_few
