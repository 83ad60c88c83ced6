use Rattle.qs_elaborate_laws.proofs.CountedUnits.{source_words_are_few}
use Rattle.qs_elaborate_laws.proofs.laws.source_words_are_few.Goals as goal

pub returns : goal.returns
returns c = source_words_are_few
