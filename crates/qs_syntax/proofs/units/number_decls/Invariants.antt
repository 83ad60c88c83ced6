use Rattle.std.proofs.Common.{◌≡◌, ◌+◌, ◌++◌, map, take, drop, length}
use Rattle.qs_syntax.specs.TreeOf.{decl_tree}
use Rattle.qs_syntax.specs.Nodes.{tokens_of, all_count, all_nodes, decl_count, decl_nodes}
use Rattle.qs_syntax.specs.Numbering.{numbered, relabel_all, relabel_decl}
use Rattle.qs_syntax.proofs.units.number_decls.Given as goal

abbrev pub invariant-loop-declaration : goal.invariant-loop-declaration
invariant-loop-declaration l = record {
  tree : map decl_tree (take l.declaration-index l.declarations) ++ relabel_all numbered decl_count (relabel_decl numbered) (length l.tokens.items) (map decl_tree (drop l.declaration-index l.declarations)) ≡ relabel_all numbered decl_count (relabel_decl numbered) (length l.fn.tokens.items) (map decl_tree l.initial.declarations);
  end : length l.tokens.items + all_count decl_count (map decl_tree (drop l.declaration-index l.declarations)) ≡ length l.fn.tokens.items + all_count decl_count (map decl_tree l.initial.declarations);
  tokens : l.tokens.items ++ tokens_of (all_nodes decl_nodes (map decl_tree (drop l.declaration-index l.declarations))) ≡ l.fn.tokens.items ++ tokens_of (all_nodes decl_nodes (map decl_tree l.initial.declarations));
}
