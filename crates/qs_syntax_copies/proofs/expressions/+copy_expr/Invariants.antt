use Rattle.std.proofs.Common.{◌≡◌, ◌++◌, map, drop}
use Rattle.qs_syntax.specs.TreeOf.{expr_tree}
use Rattle.qs_syntax_copies.proofs.expressions.+copy_expr.Given as goal

abbrev pub invariant-copy_exprs-loop-e : goal.invariant-copy_exprs-loop-e
invariant-copy_exprs-loop-e l = record {
  tree : map expr_tree l.to.items ++ map expr_tree (drop l.e-index l.from) ≡ map expr_tree l.from;
}
