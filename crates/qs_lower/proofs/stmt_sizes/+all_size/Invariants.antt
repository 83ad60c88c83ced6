use Rattle.std.proofs.Common.{length}
use Rattle.qs_lower.proofs.stmt_sizes.+all_size.Given as goal

abbrev pub decreases-all_size : goal.decreases-all_size
decreases-all_size l = length l.es.now
