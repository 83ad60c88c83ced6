use Rattle.qs_triples.proofs.BoundLaws.{derivations_bound_runs}
use Rattle.qs_triples.proofs.laws.derivations_bound_runs.Goals as goal

pub returns : goal.returns
returns c = derivations_bound_runs
