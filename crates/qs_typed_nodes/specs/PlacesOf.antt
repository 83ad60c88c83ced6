-- The pure places that places in code stand for.
use Rattle.qs_meaning.specs.Names as names
use Rattle.qs_typed_nodes.specs.declared.places.Locals.{Locals}
use Rattle.qs_typed_nodes.specs.declared.places.Statics.{Statics}

abbrev pub locals_tree : Locals → names.Locals
locals_tree l = record { variables = l.variables.keys; placed = l.placed.keys }

abbrev pub statics_tree : Statics → names.Statics
statics_tree s = record { variables = s.variables.keys; texts = s.texts.keys }
