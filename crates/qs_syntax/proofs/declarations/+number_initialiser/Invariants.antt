use Rattle.std.proofs.Common.{◌≡◌, ◌+◌, ◌++◌, map, take, drop, length}
use Rattle.qs_syntax.specs.TreeOf.{initialiser_tree}
use Rattle.qs_syntax.specs.Nodes.{tokens_of, all_count, all_nodes, initialiser_count, initialiser_nodes}
use Rattle.qs_syntax.specs.Numbering.{numbered, relabel_all, relabel_initialiser}
use Rattle.qs_syntax.proofs.declarations.+number_initialiser.Given as goal

abbrev pub invariant-number_initialisers-loop-item : goal.invariant-number_initialisers-loop-item
invariant-number_initialisers-loop-item l = record {
  unvisited : goal.unvisited-number_initialisers-loop-item l;
  tree : map initialiser_tree (take l.item-index l.items) ++ relabel_all numbered initialiser_count (relabel_initialiser numbered) (length l.tokens.items) (map initialiser_tree (drop l.item-index l.items)) ≡ relabel_all numbered initialiser_count (relabel_initialiser numbered) (length l.fn.tokens.items) (map initialiser_tree l.initial.items);
  end : length l.tokens.items + all_count initialiser_count (map initialiser_tree (drop l.item-index l.items)) ≡ length l.fn.tokens.items + all_count initialiser_count (map initialiser_tree l.initial.items);
  tokens : l.tokens.items ++ tokens_of (all_nodes initialiser_nodes (map initialiser_tree (drop l.item-index l.items))) ≡ l.fn.tokens.items ++ tokens_of (all_nodes initialiser_nodes (map initialiser_tree l.initial.items));
}
