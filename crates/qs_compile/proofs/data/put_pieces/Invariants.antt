use Rattle.std.proofs.Common.{◌≡◌, ◌++◌, map, drop}
use Rattle.qs_core.specs.TreeOf.{piece_tree}
use Rattle.qs_frames.specs.Starts.{start_of}
use Rattle.qs_compile.specs.Bytes.{pieces_bytes}
use Rattle.qs_compile.proofs.data.put_pieces.Given as goal

-- what is written and the pieces ahead are the whole
abbrev pub invariant-loop-p : goal.invariant-loop-p
invariant-loop-p l =
    l.bytes.items ++ pieces_bytes (start_of l.starts) (map piece_tree (drop l.p-index l.pieces))
    ≡ l.fn.bytes.items ++ pieces_bytes (start_of l.starts) (map piece_tree l.pieces)
