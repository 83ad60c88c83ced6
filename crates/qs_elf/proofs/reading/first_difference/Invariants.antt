use Rattle.std.proofs.Common.{◌≡◌, drop}
use Rattle.qs_elf.specs.Faults.{difference_from}
use Rattle.qs_elf.proofs.reading.first_difference.Given as goal

-- the first place is that among the bytes ahead
abbrev pub invariant-loop-at : goal.invariant-loop-at
invariant-loop-at l = difference_from l.at (drop l.at l.file) (drop l.at l.other) ≡ difference_from 0 l.file l.other
