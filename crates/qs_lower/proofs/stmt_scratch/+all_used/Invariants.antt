use Rattle.std.proofs.Common.{length}
use Rattle.qs_lower.proofs.stmt_scratch.+all_used.Given as goal

abbrev pub decreases-all_used : goal.decreases-all_used
decreases-all_used l = length l.es.now
