use Rattle.std.proofs.Common.{◌+◌, ◌*◌, ◌^◌, ◌≤◌, arith}
use Rattle.qs_tac.specs.TreeOf.{function_tree}
use Rattle.qs_tac.specs.Places.{places_tree, slots_among}
use Rattle.qs_frames.specs.Layout.{outgoing_words, kept}
use Rattle.qs_frames.proofs.FrameLaws.{few_return_words}
use Rattle.qs_frames.proofs.OffsetLaws.{few_are_kept}
use Rattle.qs_frames.proofs.parts.try_layout.Goals as goal

pub frame_words-words-requires-clause-words : goal.frame_words-words-requires-clause-words
frame_words-words-requires-clause-words c =
    let few : kept (places_tree c.args.places.now) ≤ 12 + slots_among c.args.places.now.at.items = few_are_kept (places_tree c.args.places.now) in
    grind (arith, few, c.slots_among.ensures.count, c.if-slots_among-gt-MOST_WORDS.false, c.deref.ensures.value, c.most_passed.ensures, c.if-most_passed-gt-MOST_WORDS.false, c.deref-2.ensures.value, c.in_ok-blocks.ensures)

pub frame_cost-requires : goal.frame_cost-requires
frame_cost-requires c =
    let few : kept (places_tree c.args.places.now) ≤ 12 + slots_among c.args.places.now.at.items = few_are_kept (places_tree c.args.places.now) in
    let address = few_return_words (function_tree c.args.f.now) (places_tree c.args.places.now) in
    let room : 4 * (outgoing_words (function_tree c.args.f.now) + kept (places_tree c.args.places.now)) + c.in_ok-blocks.blocks ≤ 2 ^ 30 =
    grind (arith, few, c.slots_among.ensures.count, c.if-slots_among-gt-MOST_WORDS.false, c.deref.ensures.value, c.most_passed.ensures, c.if-most_passed-gt-MOST_WORDS.false, c.deref-2.ensures.value, c.in_ok-blocks.ensures) in
    omega (arith, room, address, c.frame_words-words.ensures)
