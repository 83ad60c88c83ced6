-- The unit of a typed unit.
use Rattle.qs_syntax.specs.Trees.{UnitTree}
use Rattle.qs_syntax.specs.UnitTrees.{unit_tree}
use Rattle.qs_typing_findings.specs.declared.typed_unit.TypedUnit.{TypedUnit}

abbrev pub typed_tree : TypedUnit → UnitTree
typed_tree typed = unit_tree typed.unit
