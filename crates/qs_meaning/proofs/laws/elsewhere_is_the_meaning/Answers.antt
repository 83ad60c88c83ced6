use Rattle.qs_meaning.proofs.ElsewhereSame.{elsewhere_is_the_meaning}
use Rattle.qs_meaning.proofs.laws.elsewhere_is_the_meaning.Goals as goal

pub returns : goal.returns
returns c = elsewhere_is_the_meaning
