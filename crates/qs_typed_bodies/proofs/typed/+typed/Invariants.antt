use Rattle.std.proofs.Common.{◌≡◌, map, drop}
use Rattle.qs_syntax.specs.TreeOf.{exprs_tree}
use Rattle.qs_typed_trees.specs.TreeOf.{argument_tree}
use Rattle.qs_typed_nodes.specs.Behind.{behind}
use Rattle.qs_typed_nodes.specs.Known.{with_argument, arguments_known}
use Rattle.qs_typed_nodes.specs.KnownOf.{known_tree}
use Rattle.qs_typed_bodies.proofs.typed.+typed.Given as goal

abbrev pub invariant-arguments-loop-i : goal.invariant-arguments-loop-i
invariant-arguments-loop-i l =
    arguments_known (known_tree l.k) l.parameters (exprs_tree l.es)
    ≡ behind with_argument (map argument_tree l.given.items) (arguments_known (known_tree l.k) (drop l.i l.parameters) (exprs_tree (drop l.i l.es)))
