use Rattle.std.proofs.Common.{◌≡◌, ◌<◌, ◌^◌, drop}
use Rattle.qs_lexer.specs.Numbers.{value_from}
use Rattle.qs_lexer.proofs.numbers.value_of.Given as goal

abbrev pub invariant-loop-byte : goal.invariant-loop-byte
invariant-loop-byte l = (l.value < 2 ^ 32) × (value_from l.base l.value (drop l.byte-index l.digits) ≡ value_from l.base 0 l.fn.digits)
