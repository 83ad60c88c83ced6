use Rattle.qs_tac.specs.Places.{slots_from}
use Rattle.qs_alloc.proofs.OwnSlots.{slot_goes_on}
use Rattle.qs_alloc.proofs.assignment.own_slots.Goals as goal

pub loop-slot-preserved : goal.loop-slot-preserved
loop-slot-preserved c =
    slot_goes_on c.loop-slot.at.items c.push.new.self.items (slots_from 0 c.args.count) c.args.count c.loop-slot.slot c.loop-slot-test.true
    c.in_ok-push.ensures.items c.loop-slot.invariant
