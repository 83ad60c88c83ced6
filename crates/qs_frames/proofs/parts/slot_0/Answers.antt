use Rattle.std.proofs.Common.{arith}
use Rattle.qs_tac.specs.TreeOf.{function_tree}
use Rattle.qs_tac.specs.Places.{places_tree}
use Rattle.qs_frames.proofs.OffsetLaws.{first_slot}
use Rattle.qs_frames.proofs.parts.slot_0.Goals as goal

pub returns : goal.returns
returns c =
    let first = first_slot (function_tree c.args.f.now) (places_tree c.args.places.now) in
    grind (arith, first, c.words_before_slots.ensures, c.behind_last.ensures, c.deref.ensures.value)
