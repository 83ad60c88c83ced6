use Rattle.std.proofs.Common.{◌≡◌, ◌+◌, length, map, drop}
use Rattle.qs_core.specs.TreeOf.{piece_tree}
use Rattle.qs_core.specs.Units.{cells_of_pieces}
use Rattle.qs_lower.proofs.data.pieces_size.Given as goal

abbrev pub invariant-loop-p : goal.invariant-loop-p
invariant-loop-p l =
    l.size + length (cells_of_pieces (map piece_tree (drop l.p-index l.ps))) ≡ length (cells_of_pieces (map piece_tree l.ps))
