-- The locations that those in code stand for.
use Rattle.qs_core.specs.TreeOf.{core_expr}
use Rattle.qs_elaborate_bodies.specs.Parts as parts
use Rattle.qs_elaborate_bodies.specs.declared.parts.Location.{Location}
use Rattle.qs_elaborate_bodies.specs.declared.parts.Location.TheVariants as locations

abbrev pub location_of : Location → parts.Location
location_of (locations.Plain x) = parts.plain x
location_of (locations.Pointed a) = parts.pointed (core_expr a)
