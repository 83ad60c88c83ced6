use Rattle.qs_meaning.proofs.Growth.{main_grows}
use Rattle.qs_meaning.proofs.laws.main_grows.Goals as goal

pub returns : goal.returns
returns c = main_grows
