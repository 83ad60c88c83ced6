use Rattle.qs_tac.proofs.PlacesLaws.{places_keep_runs}
use Rattle.qs_tac.proofs.laws.places_keep_runs.Goals as goal

pub returns : goal.returns
returns c u = places_keep_runs u
