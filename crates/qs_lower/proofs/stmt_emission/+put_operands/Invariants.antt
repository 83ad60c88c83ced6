use Rattle.std.proofs.Common.{length}
use Rattle.qs_lower.proofs.stmt_emission.+put_operands.Given as goal

abbrev pub decreases-put_operands : goal.decreases-put_operands
decreases-put_operands l = length l.es.now
