use Rattle.std.proofs.Common.{◌≡◌, ◌≤◌, ◌^◌, drop}
use Rattle.qs_sexpr.specs.Numbers.{value_from}
use Rattle.qs_sexpr.proofs.numbers.value_of.Given as goal

abbrev pub invariant-loop-digit : goal.invariant-loop-digit
invariant-loop-digit l = (l.value ≤ 2 ^ 63) × (value_from l.value (drop l.digit-index l.digits) ≡ value_from 0 l.fn.digits)
