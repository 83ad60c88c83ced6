use Rattle.std.proofs.Common.{◌≡◌, drop}
use Rattle.std.specs.List.{list_all}
use Rattle.qs_tac.specs.Places.{slots_among, may_stand}
use Rattle.qs_alloc.proofs.sharing.all_stand.Given as goal

abbrev pub invariant-loop-place : goal.invariant-loop-place
invariant-loop-place l = list_all (may_stand (slots_among l.at)) (drop l.place-index l.at) ≡ list_all (may_stand (slots_among l.at)) l.at
