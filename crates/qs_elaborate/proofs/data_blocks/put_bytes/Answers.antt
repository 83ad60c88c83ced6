use Rattle.std.proofs.Common.{arith}
use Rattle.std.proofs.lemmas.Grind.{common_steps}
use Rattle.qs_elaborate.proofs.PieceRuns.{bytes_more}
use Rattle.qs_elaborate.proofs.data_blocks.put_bytes.Goals as goal

pub returns-clause-pieces : goal.returns-clause-pieces
returns-clause-pieces c ps =
    rw (c.in_ok-end_nulls.ensures.pieces, c.in_ok-end_nulls.ensures.nulls, c.in_ok-extend_from_slice.ensures.items)
    (bytes_more _ c.args.bs.now.items c.args.n.now c.args.more.now ps c.requires (grind (arith, common_steps)))
