use Rattle.std.proofs.Common.{◌≡◌, ◌+◌, ◌++◌, map, take, drop, length}
use Rattle.qs_syntax.specs.TreeOf.{parameter_tree}
use Rattle.qs_syntax.specs.Nodes.{tokens_of, all_count, all_nodes, parameter_count, parameter_nodes}
use Rattle.qs_syntax.specs.Numbering.{numbered, relabel_all, relabel_parameter}
use Rattle.qs_syntax.proofs.units.number_parameters.Given as goal

abbrev pub invariant-loop-parameter : goal.invariant-loop-parameter
invariant-loop-parameter l = record {
  tree : map parameter_tree (take l.parameter-index l.parameters) ++ relabel_all numbered parameter_count (relabel_parameter numbered) (length l.tokens.items) (map parameter_tree (drop l.parameter-index l.parameters)) ≡ relabel_all numbered parameter_count (relabel_parameter numbered) (length l.fn.tokens.items) (map parameter_tree l.initial.parameters);
  end : length l.tokens.items + all_count parameter_count (map parameter_tree (drop l.parameter-index l.parameters)) ≡ length l.fn.tokens.items + all_count parameter_count (map parameter_tree l.initial.parameters);
  tokens : l.tokens.items ++ tokens_of (all_nodes parameter_nodes (map parameter_tree (drop l.parameter-index l.parameters))) ≡ l.fn.tokens.items ++ tokens_of (all_nodes parameter_nodes (map parameter_tree l.initial.parameters));
}
