use Rattle.std.proofs.Common.{◌≡◌, ◌++◌, map, drop}
use Rattle.qs_syntax.specs.TreeOf.{parameter_tree}
use Rattle.qs_typed_nodes.specs.KnownFunctions.{parameters_nodes}
use Rattle.qs_typed_units.proofs.locals.parameters_nodes.Given as goal

abbrev pub invariant-loop-p : goal.invariant-loop-p
invariant-loop-p l =
    l.initial.nodes.items ++ parameters_nodes (map parameter_tree l.ps) ≡ l.nodes.items ++ parameters_nodes (map parameter_tree (drop l.p-index l.ps))
