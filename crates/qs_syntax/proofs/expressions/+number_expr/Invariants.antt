use Rattle.std.proofs.Common.{◌≡◌, ◌+◌, ◌++◌, map, take, drop, length}
use Rattle.qs_syntax.specs.TreeOf.{expr_tree}
use Rattle.qs_syntax.specs.Nodes.{tokens_of, all_count, all_nodes, expr_count, expr_nodes}
use Rattle.qs_syntax.specs.Numbering.{numbered, relabel_all, relabel_expr}
use Rattle.qs_syntax.proofs.expressions.+number_expr.Given as goal

abbrev pub invariant-number_exprs-loop-e : goal.invariant-number_exprs-loop-e
invariant-number_exprs-loop-e l = record {
  unvisited : goal.unvisited-number_exprs-loop-e l;
  tree : map expr_tree (take l.e-index l.es) ++ relabel_all numbered expr_count (relabel_expr numbered) (length l.tokens.items) (map expr_tree (drop l.e-index l.es)) ≡ relabel_all numbered expr_count (relabel_expr numbered) (length l.fn.tokens.items) (map expr_tree l.initial.es);
  end : length l.tokens.items + all_count expr_count (map expr_tree (drop l.e-index l.es)) ≡ length l.fn.tokens.items + all_count expr_count (map expr_tree l.initial.es);
  tokens : l.tokens.items ++ tokens_of (all_nodes expr_nodes (map expr_tree (drop l.e-index l.es))) ≡ l.fn.tokens.items ++ tokens_of (all_nodes expr_nodes (map expr_tree l.initial.es));
}
