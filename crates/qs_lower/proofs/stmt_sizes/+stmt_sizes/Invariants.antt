use Rattle.std.proofs.Common.{◌≡◌, ◌+◌, map, drop}
use Rattle.qs_lower.specs.StmtPlans.{stmt_part, sizes_before}
use Rattle.qs_lower.proofs.stmt_sizes.+stmt_sizes.Given as goal

abbrev pub invariant-sizes_before-loop-s : goal.invariant-sizes_before-loop-s
invariant-sizes_before-loop-s l = l.size + sizes_before (map stmt_part (drop l.s-index l.ss)) ≡ sizes_before (map stmt_part l.ss)
