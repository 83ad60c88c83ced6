use Rattle.std.proofs.Common.{arith, ◌∙◌}
use Rattle.qs_machine.proofs.Starts.{words_bytes-more}
use Rattle.qs_machine.proofs.loading.code_bytes.Goals as goal

pub loop-i-preserved : goal.loop-i-preserved
loop-i-preserved c =
    c.in_ok-extend_from_slice.ensures.items
    ∙ words_bytes-more c.args.image.now.code c.loop-i.bytes.items c.to_le_bytes.result c.loop-i.i c.code.result (omega arith) c.code.ensures c.to_le_bytes.ensures c.loop-i.invariant
