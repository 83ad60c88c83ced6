use Rattle.qs_tac.specs.Places.{slots_among}
use Rattle.std.proofs.Common.{◌≡◌, drop}
use Rattle.std.specs.Prelude.{unwrap_or}
use Rattle.qs_frames.specs.Layout.{behind_last}
use Rattle.qs_frames.proofs.parts.behind_last.Given as goal

abbrev pub invariant-loop-place : goal.invariant-loop-place
invariant-loop-place l = record {
  left : l.left ≡ slots_among (drop l.place-index l.places);
  last : unwrap_or (behind_last (drop l.place-index l.places) l.fn.slot) l.behind ≡ unwrap_or (behind_last l.places l.fn.slot) 0;
}
