use Rattle.std.proofs.Common.{◌≡◌, true, [], ◌++◌, map, drop}
use Rattle.qs_core.specs.TreeOf.{piece_tree}
use Rattle.qs_elaborate.specs.Pieces.{with_run, is_one_run, with_contents}
use Rattle.qs_elaborate.proofs.data_blocks.pieces_of.Given as goal

-- the pieces so far, the run, and what the rest gives are the whole
abbrev pub invariant-loop-d : goal.invariant-loop-d
invariant-loop-d l = record {
  run : is_one_run l.bytes.items l.nulls ≡ true;
  pieces : map piece_tree l.pieces.items ++ with_run l.bytes.items l.nulls (with_contents (drop l.d-index l.contents) []) ≡ with_contents l.contents [];
}
