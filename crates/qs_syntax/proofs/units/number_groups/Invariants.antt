use Rattle.std.proofs.Common.{◌≡◌, ◌+◌, ◌++◌, map, take, drop, length}
use Rattle.qs_syntax.specs.TreeOf.{members_tree}
use Rattle.qs_syntax.specs.Nodes.{tokens_of, all_count, all_nodes, members_count, members_nodes}
use Rattle.qs_syntax.specs.Numbering.{numbered, relabel_all, relabel_members}
use Rattle.qs_syntax.proofs.units.number_groups.Given as goal

abbrev pub invariant-loop-group : goal.invariant-loop-group
invariant-loop-group l = record {
  tree : map members_tree (take l.group-index l.groups) ++ relabel_all numbered members_count (relabel_members numbered) (length l.tokens.items) (map members_tree (drop l.group-index l.groups)) ≡ relabel_all numbered members_count (relabel_members numbered) (length l.fn.tokens.items) (map members_tree l.initial.groups);
  end : length l.tokens.items + all_count members_count (map members_tree (drop l.group-index l.groups)) ≡ length l.fn.tokens.items + all_count members_count (map members_tree l.initial.groups);
  tokens : l.tokens.items ++ tokens_of (all_nodes members_nodes (map members_tree (drop l.group-index l.groups))) ≡ l.fn.tokens.items ++ tokens_of (all_nodes members_nodes (map members_tree l.initial.groups));
}
