use Rattle.qs_certify.proofs.MainLaws.{main_bounds_runs}
use Rattle.qs_certify.proofs.laws.main_bounds_runs.Goals as goal

pub returns : goal.returns
returns c = main_bounds_runs
