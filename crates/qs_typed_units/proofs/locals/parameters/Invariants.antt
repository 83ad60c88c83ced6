use Rattle.std.proofs.Common.{◌≡◌, ◌∷◌, map, drop}
use Rattle.qs_syntax.specs.TreeOf.{parameter_tree}
use Rattle.qs_typed_nodes.specs.Behind.{behind}
use Rattle.qs_typed_nodes.specs.KnownFunctions.{parameters_known}
use Rattle.qs_typed_nodes.specs.KnownOf.{known_tree}
use Rattle.qs_typed_units.proofs.locals.parameters.Given as goal

abbrev pub invariant-loop-p : goal.invariant-loop-p
invariant-loop-p l =
    parameters_known (known_tree l.k) (map parameter_tree l.ps) ≡ behind ◌∷◌ l.all.items (parameters_known (known_tree l.k) (map parameter_tree (drop l.p-index l.ps)))
