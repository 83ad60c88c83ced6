use Rattle.std.proofs.Common.{[], ◌++◌, map, ap, sym, ◌∙◌, arith}
use Rattle.std.proofs.lemmas.List.{drop_all}
use Rattle.qs_core.specs.TreeOf.{piece_tree}
use Rattle.qs_elaborate.specs.Pieces.{nulls_piece, with_run, with_contents}
use Rattle.qs_elaborate.proofs.PieceRuns.{none_more}
use Rattle.qs_elaborate.proofs.data_blocks.pieces_of.Goals as goal

pub returns : goal.returns
returns c =
    let done = map piece_tree c.loop-d.pieces.items in
    let bytes = c.loop-d.bytes.items in
    c.in_ok-end_nulls.ensures.pieces
    ∙ ap (λ l. l ++ nulls_piece c.loop-d.nulls) c.in_ok-end_bytes.ensures.pieces
    ∙ none_more done bytes c.loop-d.nulls c.loop-d.invariant.run
    ∙ ap (λ ds. done ++ with_run bytes c.loop-d.nulls (with_contents ds [])) (sym (drop_all c.loop-d.d-index c.args.contents.now (omega arith)))
    ∙ c.loop-d.invariant.pieces
