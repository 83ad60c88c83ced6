use Rattle.std.proofs.Common.{◌≡◌, drop, false}
use Rattle.qs_lexer.specs.Ends.{end_of, later, quote_turn}
use Rattle.qs_lexer.proofs.ends.quote_end.Given as goal

abbrev pub invariant-loop-i : goal.invariant-loop-i
invariant-loop-i l = later l.i (end_of (quote_turn l.quote) l.taken (drop l.i l.bytes)) ≡ end_of (quote_turn l.quote) false l.fn.bytes
