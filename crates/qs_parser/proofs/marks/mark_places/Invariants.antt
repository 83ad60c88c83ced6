use Rattle.std.proofs.Common.{◌≡◌, drop}
use Rattle.qs_parser.specs.Places.{marked_at}
use Rattle.qs_parser.proofs.marks.mark_places.Given as goal

abbrev pub invariant-loop-place : goal.invariant-loop-place
invariant-loop-place l = record {
  marks : marked_at l.name (drop l.place-index l.places) l.tokens ≡ marked_at l.name l.places l.initial.tokens;
}
