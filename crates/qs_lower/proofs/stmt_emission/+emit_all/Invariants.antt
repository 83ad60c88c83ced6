use Rattle.std.proofs.Common.{length}
use Rattle.qs_lower.proofs.stmt_emission.+emit_all.Given as goal

abbrev pub decreases-emit_all : goal.decreases-emit_all
decreases-emit_all l = length l.es.now
