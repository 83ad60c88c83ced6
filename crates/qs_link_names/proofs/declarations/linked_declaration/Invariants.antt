use Rattle.std.proofs.Common.{◌≡◌, ◌++◌, map, drop}
use Rattle.qs_syntax.specs.TreeOf.{variable_tree}
use Rattle.qs_link_names.specs.InternalOf.{internal_of}
use Rattle.qs_link_names.specs.LinkedDeclarations.{behind_variables, linked_variables}
use Rattle.qs_link_names.proofs.declarations.linked_declaration.Given as goal

abbrev pub invariant-loop-variable : goal.invariant-loop-variable
invariant-loop-variable l = record {
  tree : map variable_tree l.variables.items ++ linked_variables (internal_of l.own) (map variable_tree (drop l.variable-index l.from.variables.items)) ≡ linked_variables (internal_of l.initial.own) (map variable_tree l.from.variables.items);
  behind : behind_variables (internal_of l.own) (map variable_tree (drop l.variable-index l.from.variables.items)) ≡ behind_variables (internal_of l.initial.own) (map variable_tree l.from.variables.items);
}
