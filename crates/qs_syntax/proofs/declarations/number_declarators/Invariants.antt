use Rattle.std.proofs.Common.{◌≡◌, ◌+◌, ◌++◌, map, take, drop, length}
use Rattle.qs_syntax.specs.TreeOf.{declarator_tree}
use Rattle.qs_syntax.specs.Nodes.{tokens_of, all_count, all_nodes, declarator_count, declarator_nodes}
use Rattle.qs_syntax.specs.Numbering.{numbered, relabel_all, relabel_declarator}
use Rattle.qs_syntax.proofs.declarations.number_declarators.Given as goal

abbrev pub invariant-loop-declarator : goal.invariant-loop-declarator
invariant-loop-declarator l = record {
  tree : map declarator_tree (take l.declarator-index l.items) ++ relabel_all numbered declarator_count (relabel_declarator numbered) (length l.tokens.items) (map declarator_tree (drop l.declarator-index l.items)) ≡ relabel_all numbered declarator_count (relabel_declarator numbered) (length l.fn.tokens.items) (map declarator_tree l.initial.items);
  end : length l.tokens.items + all_count declarator_count (map declarator_tree (drop l.declarator-index l.items)) ≡ length l.fn.tokens.items + all_count declarator_count (map declarator_tree l.initial.items);
  tokens : l.tokens.items ++ tokens_of (all_nodes declarator_nodes (map declarator_tree (drop l.declarator-index l.items))) ≡ l.fn.tokens.items ++ tokens_of (all_nodes declarator_nodes (map declarator_tree l.initial.items));
}
