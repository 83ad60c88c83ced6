use Rattle.std.proofs.Common.{◌≡◌, map, drop}
use Rattle.qs_typed_units.specs.CellsOf.{cell_tree}
use Rattle.qs_typed_units.specs.KnownBlocks.{pieces_over_known}
use Rattle.qs_typed_nodes.specs.PieceOf.{piece_tree}
use Rattle.qs_typed_units.specs.TablesOf.{tables_tree}
use Rattle.qs_typed_units.proofs.static_data.pieces_over.Given as goal

abbrev pub invariant-loop-p : goal.invariant-loop-p
invariant-loop-p l =
    pieces_over_known (tables_tree l.t) (map piece_tree l.ps) (map cell_tree l.initial.cells) ≡ pieces_over_known (tables_tree l.t) (map piece_tree (drop l.p-index l.ps)) (map cell_tree l.cells)
