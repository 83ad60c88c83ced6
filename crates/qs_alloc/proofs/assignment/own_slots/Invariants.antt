use Rattle.std.proofs.Common.{◌≡◌, ◌-◌, ◌++◌}
use Rattle.qs_tac.specs.Places.{slots_from}
use Rattle.qs_alloc.proofs.assignment.own_slots.Given as goal

abbrev pub invariant-loop-slot : goal.invariant-loop-slot
invariant-loop-slot l = l.at.items ++ slots_from l.slot (l.fn.count - l.slot) ≡ slots_from 0 l.fn.count
