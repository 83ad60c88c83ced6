use Rattle.std.proofs.Common.{sym, ◌∙◌}
use Rattle.qs_image.specs.View.{record_of, records_left}
use Rattle.qs_image.proofs.Parts.{all_differ-first}
use Rattle.qs_image.proofs.records.Records.all_differ.Goals as goal

pub returns-then-has_name : goal.returns-then-has_name
returns-then-has_name c =
    let first = all_differ-first (records_left c.loop-record.records) (records_left c.next.new.self) (record_of c.in-Some.record) c.has_name.result c.in-Some.ensures.steps c.has_name.ensures in
    sym (rw c.if-has_name.true at first) ∙ c.loop-record.invariant

pub loop-record-preserved : goal.loop-record-preserved
loop-record-preserved c =
    let first = all_differ-first (records_left c.loop-record.records) (records_left c.next.new.self) (record_of c.in-Some.record) c.has_name.result c.in-Some.ensures.steps c.has_name.ensures in
    sym (rw c.if-has_name.false at first) ∙ c.loop-record.invariant
