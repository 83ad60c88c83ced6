use Rattle.std.proofs.Common.{◌≡◌, ◌++◌, map, drop}
use Rattle.qs_syntax.specs.TreeOf.{variable_tree}
use Rattle.qs_typed_units.specs.Addressed.{variables_addressed}
use Rattle.qs_typed_units.proofs.addressed.variables_addressed.Given as goal

abbrev pub invariant-loop-v : goal.invariant-loop-v
invariant-loop-v l =
    l.initial.nodes.items ++ variables_addressed l.names (map variable_tree l.vs) ≡ l.nodes.items ++ variables_addressed l.names (map variable_tree (drop l.v-index l.vs))
