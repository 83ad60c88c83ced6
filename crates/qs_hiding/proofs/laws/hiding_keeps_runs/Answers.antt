use Rattle.qs_hiding.proofs.HiddenRuns.{hiding_keeps_runs}
use Rattle.qs_hiding.proofs.laws.hiding_keeps_runs.Goals as goal

pub returns : goal.returns
returns c = hiding_keeps_runs
