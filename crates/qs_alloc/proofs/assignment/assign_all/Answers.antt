use Rattle.std.proofs.Common.{map, ap, refl}
use Rattle.qs_tac.specs.Places.{places_tree}
use Rattle.qs_alloc.proofs.UnitLaws.{none_packed, packed_more}
use Rattle.qs_alloc.proofs.assignment.assign_all.Goals as goal

pub loop-f-init : goal.loop-f-init
loop-f-init c = none_packed _ _ refl (ap (map places_tree) c.new-all.ensures.items)

pub loop-f-preserved : goal.loop-f-preserved
loop-f-preserved c = packed_more _ _ c.f-item.result _ _ _ c.loop-f-test.true c.f-item.is c.in_ok-push.ensures.items c.in_ok-assign.ensures.packed c.loop-f.invariant
