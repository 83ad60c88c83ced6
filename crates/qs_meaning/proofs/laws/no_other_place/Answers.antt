use Rattle.qs_meaning.proofs.ElsewhereLaws.{no_other_place}
use Rattle.qs_meaning.proofs.laws.no_other_place.Goals as goal

pub returns : goal.returns
returns c = no_other_place
