use Rattle.qs_tac.specs.Places.{slots_among}
use Rattle.std.proofs.Common.{◌≡◌, ◌+◌, drop}
use Rattle.qs_frames.proofs.parts.slots_among.Given as goal

abbrev pub invariant-loop-place : goal.invariant-loop-place
invariant-loop-place l = l.count + slots_among (drop l.place-index l.places) ≡ slots_among l.places
