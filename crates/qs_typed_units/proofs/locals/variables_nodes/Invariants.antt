use Rattle.std.proofs.Common.{◌≡◌, ◌++◌, map, drop}
use Rattle.qs_syntax.specs.TreeOf.{variable_tree}
use Rattle.qs_typed_nodes.specs.KnownFunctions.{variables_nodes}
use Rattle.qs_typed_units.proofs.locals.variables_nodes.Given as goal

abbrev pub invariant-loop-v : goal.invariant-loop-v
invariant-loop-v l =
    l.initial.nodes.items ++ variables_nodes (map variable_tree l.vs) ≡ l.nodes.items ++ variables_nodes (map variable_tree (drop l.v-index l.vs))
