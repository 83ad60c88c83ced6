use Rattle.qs_lower.proofs.UnitWords.{lowered_sizes_are_kept}
use Rattle.qs_lower.proofs.laws.lowered_sizes_are_kept.Goals as goal

pub returns : goal.returns
returns c u = lowered_sizes_are_kept u
