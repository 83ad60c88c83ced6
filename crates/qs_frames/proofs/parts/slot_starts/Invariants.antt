use Rattle.std.proofs.Common.{◌≡◌, ◌≤◌, drop}
use Rattle.qs_tac.specs.TreeOf.{function_tree}
use Rattle.qs_tac.specs.Places.{places_tree, slots_among, slot_count}
use Rattle.qs_frames.proofs.OffsetLaws.{AreSlotsFrom}
use Rattle.qs_frames.proofs.parts.slot_starts.Given as goal

abbrev pub invariant-loop-place : goal.invariant-loop-place
invariant-loop-place l = record {
  left : l.left ≡ slots_among (drop l.place-index l.fn.places.at.items);
  most : l.left ≤ slot_count (places_tree l.fn.places);
  slots : AreSlotsFrom (function_tree l.fn.f) (places_tree l.fn.places) (drop l.place-index l.fn.places.at.items) l.at.items;
}
