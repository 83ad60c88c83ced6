use Rattle.std.proofs.Common.{take}
use Rattle.qs_parser.specs.Places.{Indexes}
use Rattle.qs_parser.proofs.marks.places_of.Given as goal

abbrev pub invariant-loop-place : goal.invariant-loop-place
invariant-loop-place l = record {
  known : Indexes l.places (take l.place l.tokens);
}
