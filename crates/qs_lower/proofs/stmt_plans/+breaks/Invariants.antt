use Rattle.std.proofs.Common.{◌≡◌, map, drop}
use Rattle.qs_lower.specs.StmtPlans.{stmt_part, some_breaks}
use Rattle.qs_lower.proofs.stmt_plans.+breaks.Given as goal

-- none so far breaks
abbrev pub invariant-some_breaks-loop-s : goal.invariant-some_breaks-loop-s
invariant-some_breaks-loop-s l = some_breaks (map stmt_part l.ss) ≡ some_breaks (map stmt_part (drop l.s-index l.ss))
