use Rattle.std.proofs.Common.{◌≡◌, drop, false}
use Rattle.qs_lexer.specs.Ends.{comment_turn, end_of, later}
use Rattle.qs_lexer.proofs.ends.comment_end.Given as goal

abbrev pub invariant-loop-i : goal.invariant-loop-i
invariant-loop-i l = later l.i (end_of comment_turn l.starred (drop l.i l.bytes)) ≡ end_of comment_turn false l.fn.bytes
