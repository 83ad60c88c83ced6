use Rattle.std.proofs.Common.{◌≡◌}
use Rattle.qs_image.specs.Faults.{all_differ}
use Rattle.qs_image.specs.View.{records_left}
use Rattle.qs_image.proofs.records.Records.all_differ.Given as goal

-- the records passed are no reason to refuse
abbrev pub invariant-loop-record : goal.invariant-loop-record
invariant-loop-record l = all_differ (records_left l.records) ≡ all_differ (records_left l.self)
