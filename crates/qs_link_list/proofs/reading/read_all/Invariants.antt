use Rattle.std.proofs.Common.{◌≡◌, drop}
use Rattle.qs_link_list.specs.Reading.{progress_of, scanned, scanned_from}
use Rattle.qs_link_list.proofs.reading.read_all.Given as goal

abbrev pub invariant-loop-at : goal.invariant-loop-at
invariant-loop-at l = record {
  read : scanned_from l.at (progress_of l.reader) (drop l.at l.text) ≡ scanned l.text;
}
