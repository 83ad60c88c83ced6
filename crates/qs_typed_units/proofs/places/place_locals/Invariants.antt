use Rattle.std.proofs.Common.{◌≡◌, map, option_map, drop}
use Rattle.qs_types.specs.TypeOf.{type_tree}
use Rattle.qs_typed_nodes.specs.KnownFunctions.{with_locals}
use Rattle.qs_typed_nodes.specs.PlacesOf.{locals_tree}
use Rattle.qs_typed_units.proofs.places.place_locals.Given as goal

abbrev pub invariant-loop-node : goal.invariant-loop-node
invariant-loop-node l =
    with_locals (map (option_map type_tree) l.types) l.addressed.keys l.nodes (locals_tree l.initial.locals)
    ≡ with_locals (map (option_map type_tree) l.types) l.addressed.keys (drop l.node-index l.nodes) (locals_tree l.locals)
