use Rattle.std.proofs.Common.{◌≡◌, max, map, drop}
use Rattle.qs_lower.specs.StmtPlans.{stmt_part, most_used}
use Rattle.qs_lower.proofs.stmt_scratch.+stmt_used.Given as goal

abbrev pub invariant-most_used-loop-s : goal.invariant-most_used-loop-s
invariant-most_used-loop-s l = max (most_used (map stmt_part (drop l.s-index l.ss))) l.most ≡ most_used (map stmt_part l.ss)
