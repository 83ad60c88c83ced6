use Rattle.std.proofs.Common.{◌≡◌, ◌+◌, ◌++◌, map, take, drop, length}
use Rattle.qs_syntax.specs.TreeOf.{stmt_tree}
use Rattle.qs_syntax.specs.Nodes.{tokens_of, all_count, all_nodes, stmt_count, stmt_nodes}
use Rattle.qs_syntax.specs.Numbering.{numbered, relabel_all, relabel_stmt}
use Rattle.qs_syntax.proofs.statements.+number_stmt.Given as goal

abbrev pub invariant-number_stmts-loop-s : goal.invariant-number_stmts-loop-s
invariant-number_stmts-loop-s l = record {
  unvisited : goal.unvisited-number_stmts-loop-s l;
  tree : map stmt_tree (take l.s-index l.items) ++ relabel_all numbered stmt_count (relabel_stmt numbered) (length l.tokens.items) (map stmt_tree (drop l.s-index l.items)) ≡ relabel_all numbered stmt_count (relabel_stmt numbered) (length l.fn.tokens.items) (map stmt_tree l.initial.items);
  end : length l.tokens.items + all_count stmt_count (map stmt_tree (drop l.s-index l.items)) ≡ length l.fn.tokens.items + all_count stmt_count (map stmt_tree l.initial.items);
  tokens : l.tokens.items ++ tokens_of (all_nodes stmt_nodes (map stmt_tree (drop l.s-index l.items))) ≡ l.fn.tokens.items ++ tokens_of (all_nodes stmt_nodes (map stmt_tree l.initial.items));
}
