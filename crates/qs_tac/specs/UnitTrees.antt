-- The tree of a whole unit of linear code.
use Rattle.std.specs.Prelude.{map}
use Rattle.qs_tac.specs.declared.unit.TacUnit.{TacUnit}
use Rattle.qs_tac.specs.Trees.{TacUnitTree}
use Rattle.qs_tac.specs.TreeOf.{function_tree}

abbrev pub unit_tree : TacUnit → TacUnitTree
unit_tree u = record {
  functions = map function_tree u.functions.items;
  main = u.main.0;
  data_blocks = u.data_blocks.items;
}
