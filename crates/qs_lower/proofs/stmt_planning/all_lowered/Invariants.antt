use Rattle.std.proofs.Common.{◌≡◌, ◌++◌, map, drop}
use Rattle.qs_core.specs.TreeOf.{core_exprs}
use Rattle.qs_lower_expressions.specs.Expressions.{lowered}
use Rattle.qs_lower_expressions.specs.Plans.{expr_code}
use Rattle.qs_lower.proofs.stmt_planning.all_lowered.Given as goal

abbrev pub invariant-loop-e : goal.invariant-loop-e
invariant-loop-e l = record {
  code : map expr_code l.all.items ++ map (lowered l.v) (core_exprs (drop l.e-index l.es)) ≡ map (lowered l.v) (core_exprs l.es);
}
