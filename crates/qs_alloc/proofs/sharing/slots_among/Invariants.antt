use Rattle.std.proofs.Common.{◌≡◌, drop}
use Rattle.std.proofs.Common.{◌+◌}
use Rattle.qs_tac.specs.Places.{slots_among}
use Rattle.qs_alloc.proofs.sharing.slots_among.Given as goal

abbrev pub invariant-loop-place : goal.invariant-loop-place
invariant-loop-place l = l.count + slots_among (drop l.place-index l.at) ≡ slots_among l.at
