use Rattle.std.proofs.Common.{◌≡◌, ◌-◌}
use Rattle.qs_emit_selection.specs.Pieces.{shift_among, shift_of}
use Rattle.qs_emit_selection.proofs.pieces.shift_of.Given as goal

abbrev pub invariant-loop-exponent : goal.invariant-loop-exponent
invariant-loop-exponent l = shift_among (32 - l.exponent) l.exponent l.fn.number ≡ shift_of l.fn.number
