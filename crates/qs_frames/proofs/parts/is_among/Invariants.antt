use Rattle.std.proofs.Common.{◌≡◌, drop}
use Rattle.qs_frames.specs.Layout.{is_among}
use Rattle.qs_frames.proofs.parts.is_among.Given as goal

abbrev pub invariant-loop-place : goal.invariant-loop-place
invariant-loop-place l = is_among (drop l.place-index l.places) l.fn.register ≡ is_among l.places l.fn.register
