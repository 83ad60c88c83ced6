use Rattle.qs_analyse.proofs.FillingLaws.{one_filling}
use Rattle.qs_analyse.proofs.laws.one_filling.Goals as goal

pub returns : goal.returns
returns c = one_filling
