use Rattle.std.proofs.Common.{◌≡◌, drop}
use Rattle.qs_lexer.specs.Bytes.{digit_after_blanks}
use Rattle.qs_lexer.proofs.bytes.digit_after_blanks.Given as goal

abbrev pub invariant-loop-byte : goal.invariant-loop-byte
invariant-loop-byte l = digit_after_blanks (drop l.byte-index l.bytes) ≡ digit_after_blanks l.fn.bytes
