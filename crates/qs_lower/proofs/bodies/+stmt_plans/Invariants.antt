use Rattle.std.proofs.Common.{◌≡◌, ◌++◌, map, drop}
use Rattle.qs_core.specs.TreeOf.{core_stmts}
use Rattle.qs_lower.specs.Statements.{stmt_code}
use Rattle.qs_lower.specs.StmtPlans.{stmt_part}
use Rattle.qs_lower.proofs.bodies.+stmt_plans.Given as goal

abbrev pub invariant-stmt_plans-loop-s : goal.invariant-stmt_plans-loop-s
invariant-stmt_plans-loop-s l = record {
  code : map stmt_part l.all.items ++ map (stmt_code l.v l.free) (core_stmts (drop l.s-index l.ss)) ≡ map (stmt_code l.v l.free) (core_stmts l.ss);
}
