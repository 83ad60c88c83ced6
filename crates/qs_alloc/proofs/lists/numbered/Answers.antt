use Rattle.std.proofs.Common.{◌≡◌, take, get_or, arith, [], ◌∷◌}
use Rattle.qs_tac.specs.Places.{slots_among}
use Rattle.qs_tac.specs.declared.places.Place.TheVariants.{Slot}
use Rattle.qs_alloc.proofs.ListLaws.{numbered_more, slots_more}
use Rattle.qs_alloc.proofs.lists.numbered.Goals as goal

pub loop-place-preserved : goal.loop-place-preserved
loop-place-preserved c =
    let i = c.loop-place.invariant in
    let at = c.args.at.now in
    let e = slots_more at c.loop-place.place-index c.loop-place-test.true in
    let a : c.loop-place.next ≡ slots_among (take c.loop-place.place-index at) = i.count in
    let b : c.slots_of-next.result ≡ slots_among (get_or at c.loop-place.place-index (Slot 0) ∷ []) = c.slots_of-next.ensures.value in
    record {
      count = omega arith;
      bound = omega arith;
      now = numbered_more at c.loop-place.place-index c.loop-place.next c.renumber.result c.loop-place.now.items c.push.new.self.items c.loop-place-test.true a i.now c.renumber.ensures c.in_ok-push.ensures.items;
    }
