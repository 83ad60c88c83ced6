use Rattle.qs_elaborate.proofs.PieceRuns.{pointer_more}
use Rattle.qs_elaborate.proofs.data_blocks.put_pointer.Goals as goal

pub returns-clause-pieces : goal.returns-clause-pieces
returns-clause-pieces c ps =
    rw (c.in_ok-push_piece.ensures, c.in_ok-end_nulls.ensures.pieces, c.in_ok-end_nulls.ensures.nulls, c.in_ok-end_bytes.ensures.pieces, c.in_ok-end_bytes.ensures.bytes)
    (pointer_more _ c.args.bs.now.items c.args.n.now c.args.block ps c.requires)
