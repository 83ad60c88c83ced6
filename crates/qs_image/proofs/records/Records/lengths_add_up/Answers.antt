use Rattle.std.proofs.Common.{arith}
use Rattle.qs_image.proofs.Parts.{add_up_more, add_up_past, add_up_all}
use Rattle.qs_image.proofs.records.Records.lengths_add_up.Goals as goal

pub returns-then-length-left : goal.returns-then-length-left
returns-then-length-left c =
    add_up_past c.args.self.now.version c.loop-table.table.now c.record_bytes-record_bytes.result c.word-length.result c.loop-table.left _
    c.record_bytes-record_bytes.ensures.value (omega arith) c.word-length.ensures (omega arith) c.loop-table.invariant

pub loop-table-preserved : goal.loop-table-preserved
loop-table-preserved c =
    rw c.split_at.ensures.back
    (add_up_more c.args.self.now.version c.loop-table.table.now c.record_bytes-record_bytes.result c.word-length.result c.loop-table.left _
    c.record_bytes-record_bytes.ensures.value (omega arith) c.word-length.ensures (omega arith) c.loop-table.invariant)

pub returns : goal.returns
returns c =
    add_up_all c.args.self.now.version c.loop-table.table.now c.record_bytes-record_bytes.result c.loop-table.left _
    c.record_bytes-record_bytes.ensures.value (omega arith) c.loop-table.invariant
