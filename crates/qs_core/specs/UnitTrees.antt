-- The tree of a whole unit of core.
use Rattle.qs_core.specs.declared.unit.CoreUnit.{CoreUnit}
use Rattle.qs_core.specs.Trees.{CoreUnitTree}
use Rattle.qs_core.specs.TreeOf.{unit_from}

abbrev pub unit_tree : CoreUnit → CoreUnitTree
unit_tree u = unit_from u.functions.items u.main.0 u.data_blocks.items
