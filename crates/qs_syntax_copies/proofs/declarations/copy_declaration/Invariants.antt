use Rattle.std.proofs.Common.{◌≡◌, ◌++◌, map, drop}
use Rattle.qs_syntax.specs.TreeOf.{variable_tree}
use Rattle.qs_syntax_copies.proofs.declarations.copy_declaration.Given as goal

abbrev pub invariant-loop-variable : goal.invariant-loop-variable
invariant-loop-variable l = record {
  tree : map variable_tree l.variables.items ++ map variable_tree (drop l.variable-index l.from.variables.items) ≡ map variable_tree l.from.variables.items;
}
