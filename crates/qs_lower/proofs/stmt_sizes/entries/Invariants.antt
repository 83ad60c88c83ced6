use Rattle.std.proofs.Common.{◌≡◌, ◌++◌, map, drop}
use Rattle.qs_lower.specs.Statements.{entries}
use Rattle.qs_lower.specs.StmtPlans.{stmt_part}
use Rattle.qs_lower.proofs.stmt_sizes.entries.Given as goal

-- those so far, and the rest, give the whole
abbrev pub invariant-loop-s : goal.invariant-loop-s
invariant-loop-s l =
    l.all.items ++ entries (map stmt_part (drop l.s-index l.ss)) (stmt_part l.last) l.place
    ≡ entries (map stmt_part l.ss) (stmt_part l.last) l.at
