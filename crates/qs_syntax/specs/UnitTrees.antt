-- The pure tree of a whole source.
use Rattle.std.specs.Prelude.{map}
use Rattle.qs_syntax.specs.declared.unit.Unit.{Unit}
use Rattle.qs_syntax.specs.Trees.{UnitTree}
use Rattle.qs_syntax.specs.TreeOf.{decl_tree}

abbrev pub unit_tree : Unit → UnitTree
unit_tree unit = map decl_tree unit.declarations.items
