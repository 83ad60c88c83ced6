use Rattle.qs_analyse.proofs.CoverLaws.{filled_proofs_cover}
use Rattle.qs_analyse.proofs.laws.filled_proofs_cover.Goals as goal

pub returns : goal.returns
returns c = filled_proofs_cover
