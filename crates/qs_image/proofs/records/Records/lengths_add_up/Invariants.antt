use Rattle.std.proofs.Common.{◌≡◌, ◌==◌, length, sum}
use Rattle.qs_image.specs.Bytes.{lengths_of}
use Rattle.qs_image.specs.View.{lengths_left}
use Rattle.qs_image.proofs.records.Records.lengths_add_up.Given as goal

-- the lengths ahead add up to what is left exactly where all add up to the whole
abbrev pub invariant-loop-table : goal.invariant-loop-table
invariant-loop-table l = (sum (lengths_of l.self.version l.table) == l.left) ≡ (sum (lengths_left l.self) == length l.self.names.now)

abbrev pub decreases-loop-table : goal.decreases-loop-table
decreases-loop-table l = length l.table
