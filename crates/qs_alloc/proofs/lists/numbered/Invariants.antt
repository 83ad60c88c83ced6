use Rattle.std.proofs.Common.{◌≡◌, ◌≤◌, take}
use Rattle.qs_tac.specs.Places.{slots_among}
use Rattle.qs_alloc.specs.Lists.{dense}
use Rattle.qs_alloc.proofs.lists.numbered.Given as goal

abbrev pub invariant-loop-place : goal.invariant-loop-place
invariant-loop-place l = record { count : l.next ≡ slots_among (take l.place-index l.at); bound : l.next ≤ l.place-index; now : l.now.items ≡ dense 0 (take l.place-index l.at) }
