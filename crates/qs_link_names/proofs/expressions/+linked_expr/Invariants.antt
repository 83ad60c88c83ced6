use Rattle.std.proofs.Common.{◌≡◌, ◌++◌, map, drop}
use Rattle.qs_syntax.specs.TreeOf.{expr_tree}
use Rattle.qs_link_names.specs.InternalOf.{internal_of}
use Rattle.qs_link_names.specs.LinkedExpressions.{linked_list}
use Rattle.qs_link_names.proofs.expressions.+linked_expr.Given as goal

abbrev pub invariant-linked_exprs-loop-e : goal.invariant-linked_exprs-loop-e
invariant-linked_exprs-loop-e l = record {
  tree : map expr_tree l.to.items ++ linked_list (internal_of l.own) (map expr_tree (drop l.e-index l.from)) ≡ linked_list (internal_of l.own) (map expr_tree l.from);
}
