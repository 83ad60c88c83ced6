use Rattle.std.proofs.Common.{arith}
use Rattle.std.proofs.lemmas.List.{take_min, drop_min}
use Rattle.qs_image.specs.Bytes.{word}
use Rattle.qs_image.proofs.Parts.{records_of-short, records_of-long}
use Rattle.qs_image.proofs.records.Records.split_first.Goals as goal

pub returns-then-self-record_bytes : goal.returns-then-self-record_bytes
returns-then-self-record_bytes c =
    let bytes = c.record_bytes-record_bytes.ensures.value in
    records_of-short c.args.self.now.version c.args.self.now.table.now c.args.self.now.names.now (omega (arith, bytes))

pub returns : goal.returns
returns c =
    let bytes = c.record_bytes-record_bytes.ensures.value in
    let first = records_of-long c.args.self.now.version c.args.self.now.table.now c.args.self.now.names.now (omega (arith, bytes)) in
    let name = take_min (word 0 c.args.self.now.table.now) c.args.self.now.names.now in
    let others = drop_min (word 0 c.args.self.now.table.now) c.args.self.now.names.now in
    cc
