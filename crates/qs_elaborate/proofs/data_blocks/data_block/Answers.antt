use Rattle.std.proofs.Common.{Bool, List, ap, sym, ◌∙◌}
use Rattle.qs_core.specs.Trees.{PieceTree, DataBlockTree}
use Rattle.qs_elaborate.proofs.PieceRuns.{contents_behind}
use Rattle.qs_elaborate.proofs.data_blocks.data_block.Goals as goal

abbrev with_pieces : Bool → List PieceTree → DataBlockTree
with_pieces is_writable pieces = record { is_writable = is_writable; pieces = pieces }

pub returns : goal.returns
returns c =
    ap (λ pieces. with_pieces c.args.b.now.is_writable pieces)
    ((rw c.deref.ensures.value at c.in_ok-pieces.ensures) ∙ sym (contents_behind c.args.b.now.contents.items))
