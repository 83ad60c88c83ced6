use Rattle.std.proofs.Common.{◌≡◌, ◌+◌, ◌++◌, map, take, drop, length}
use Rattle.qs_syntax.specs.TreeOf.{variable_tree}
use Rattle.qs_syntax.specs.Nodes.{tokens_of, all_count, all_nodes, variable_count, variable_nodes}
use Rattle.qs_syntax.specs.Numbering.{numbered, relabel_all, relabel_variable}
use Rattle.qs_syntax.proofs.declarations.number_variables.Given as goal

abbrev pub invariant-loop-variable : goal.invariant-loop-variable
invariant-loop-variable l = record {
  tree : map variable_tree (take l.variable-index l.variables) ++ relabel_all numbered variable_count (relabel_variable numbered) (length l.tokens.items) (map variable_tree (drop l.variable-index l.variables)) ≡ relabel_all numbered variable_count (relabel_variable numbered) (length l.fn.tokens.items) (map variable_tree l.initial.variables);
  end : length l.tokens.items + all_count variable_count (map variable_tree (drop l.variable-index l.variables)) ≡ length l.fn.tokens.items + all_count variable_count (map variable_tree l.initial.variables);
  tokens : l.tokens.items ++ tokens_of (all_nodes variable_nodes (map variable_tree (drop l.variable-index l.variables))) ≡ l.fn.tokens.items ++ tokens_of (all_nodes variable_nodes (map variable_tree l.initial.variables));
}
