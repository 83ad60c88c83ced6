use Rattle.std.proofs.Common.{◌≡◌, ◌∷◌, map, option_map, drop}
use Rattle.qs_types.specs.TypeOf.{type_tree}
use Rattle.qs_meaning.specs.Units.{scalars_of}
use Rattle.qs_typed_nodes.specs.Behind.{behind}
use Rattle.qs_typed_nodes.specs.KnownFunctions.{locals_at}
use Rattle.qs_typed_units.proofs.places.scalars.Given as goal

abbrev pub invariant-loop-i : goal.invariant-loop-i
invariant-loop-i l =
    scalars_of (locals_at (map (option_map type_tree) l.types) l.nodes.keys)
    ≡ behind ◌∷◌ l.all.items (scalars_of (locals_at (map (option_map type_tree) l.types) (drop l.i l.nodes.keys)))
