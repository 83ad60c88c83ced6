use Rattle.std.proofs.Common.{arith}
use Rattle.qs_elaborate.proofs.PieceRuns.{nulls_more}
use Rattle.qs_elaborate.proofs.data_blocks.put_nulls.Goals as goal

pub returns-clause-pieces : goal.returns-clause-pieces
returns-clause-pieces c ps =
    rw (c.in_ok-n.ensures, c.in_ok-end_bytes.ensures.pieces, c.in_ok-end_bytes.ensures.bytes)
    (nulls_more _ c.args.bs.now.items c.args.n.now c.args.more ps c.requires (omega arith))
