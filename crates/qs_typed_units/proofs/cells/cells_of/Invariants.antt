use Rattle.std.proofs.Common.{◌≡◌, ◌++◌, map, drop}
use Rattle.qs_typed_units.specs.CellsOf.{cell_tree}
use Rattle.qs_typed_trees.specs.TreeOf.{contents_cells}
use Rattle.qs_typed_units.proofs.cells.cells_of.Given as goal

abbrev pub invariant-loop-d : goal.invariant-loop-d
invariant-loop-d l = map cell_tree l.cells.items ++ contents_cells (drop l.d-index l.parts) ≡ contents_cells l.parts
