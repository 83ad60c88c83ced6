use Rattle.std.proofs.Common.{◌≡◌, ◌++◌, length, option_map}
use Rattle.qs_tasks_list.specs.Lines.{pairs_of}
use Rattle.qs_tasks_list.proofs.numbers.pairs.Given as goal

-- the bytes so far, and those of the digits that are left
abbrev pub invariant-pairs : goal.invariant-pairs
invariant-pairs l = option_map (λ more. l.bytes.items ++ more) (pairs_of l.rest) ≡ pairs_of l.fn.digits

abbrev pub decreases-pairs : goal.decreases-pairs
decreases-pairs l = length l.rest
