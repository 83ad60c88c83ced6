use Rattle.std.proofs.Common.{◌≡◌, ◌∷◌, map, option_map, drop}
use Rattle.qs_syntax.specs.TreeOf.{parameter_tree}
use Rattle.qs_types.specs.TypeOf.{type_tree}
use Rattle.qs_meaning.specs.Units.{scalars_of}
use Rattle.qs_typed_nodes.specs.Behind.{behind}
use Rattle.qs_typed_nodes.specs.KnownFunctions.{locals_at, parameters_nodes}
use Rattle.qs_typed_units.proofs.function_headers.parameter_scalars.Given as goal

abbrev pub invariant-loop-p : goal.invariant-loop-p
invariant-loop-p l =
    scalars_of (locals_at (map (option_map type_tree) l.types) (parameters_nodes (map parameter_tree l.ps)))
    ≡ behind ◌∷◌ l.all.items (scalars_of (locals_at (map (option_map type_tree) l.types) (parameters_nodes (map parameter_tree (drop l.p-index l.ps)))))
