use Rattle.qs_tasks_source.proofs.SourceSafe.{source_tasks_are_safe}
use Rattle.qs_tasks_source.proofs.laws.source_tasks_are_safe.Goals as goal

pub returns : goal.returns
returns c s claims arrivals size instructions built isolated are may = source_tasks_are_safe s claims arrivals size instructions built isolated are may
