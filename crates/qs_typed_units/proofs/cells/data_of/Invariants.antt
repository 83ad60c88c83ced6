use Rattle.std.proofs.Common.{◌≡◌, ◌++◌, map, drop}
use Rattle.qs_typed_units.specs.CellsOf.{begun_cells, cell_tree, contents_tree}
use Rattle.qs_typed_units.proofs.cells.data_of.Given as goal

abbrev pub invariant-loop-cell : goal.invariant-loop-cell
invariant-loop-cell l = (contents_tree l.contents ++ begun_cells l.begun) ++ map cell_tree (drop l.cell-index l.cells) ≡ map cell_tree l.cells
