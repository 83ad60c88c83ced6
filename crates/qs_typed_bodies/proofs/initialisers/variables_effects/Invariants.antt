use Rattle.std.proofs.Common.{◌≡◌, map, drop}
use Rattle.qs_syntax.specs.TreeOf.{variable_tree}
use Rattle.qs_meaning.specs.Typed.{in_order}
use Rattle.qs_typed_trees.specs.TreeOf.{effect_tree}
use Rattle.qs_typed_nodes.specs.Behind.{behind}
use Rattle.qs_typed_nodes.specs.KnownOf.{known_tree}
use Rattle.qs_typed_nodes.specs.KnownStatements.{variables_known}
use Rattle.qs_typed_bodies.proofs.initialisers.variables_effects.Given as goal

abbrev pub invariant-loop-v : goal.invariant-loop-v
invariant-loop-v l =
    variables_known (known_tree l.k) (map variable_tree l.vs)
    ≡ behind in_order (map effect_tree l.all.items) (variables_known (known_tree l.k) (map variable_tree (drop l.v-index l.vs)))
