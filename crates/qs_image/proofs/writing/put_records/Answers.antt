use Rattle.std.proofs.Common.{arith}
use Rattle.qs_image.proofs.WritingLaws.{records_more}
use Rattle.qs_image.proofs.writing.put_records.Goals as goal

pub loop-f-preserved : goal.loop-f-preserved
loop-f-preserved c = records_more c.loop-f.bytes.items c.put_record.new.bytes.items _ c.f-item.result c.args.functions.now c.loop-f.f-index (omega arith) c.f-item.is c.in_ok-put_record.ensures c.loop-f.invariant
