use Rattle.std.proofs.Common.{arith, ◌+◌, ◌*◌, ◌-◌, drop, ap, get_or}
use Rattle.qs_base.specs.Characters.{digit_zero}
use Rattle.qs_sexpr.specs.Numbers.{value_from}
use Rattle.qs_sexpr.proofs.ScanLaws.{value_goes, value_grows}
use Rattle.qs_sexpr.proofs.numbers.value_of.Goals as goal

pub returns-then-value-gt1000000000000000000 : goal.returns-then-value-gt1000000000000000000
returns-then-value-gt1000000000000000000 c = λ h.
    let e = value_goes c.loop-digit.value c.args.digits.now c.loop-digit.digit-index c.loop-digit-test.true in
    let g = value_grows (c.loop-digit.value * 10 + (get_or c.args.digits.now c.loop-digit.digit-index 0 - digit_zero)) (drop (c.loop-digit.digit-index + 1) c.args.digits.now) in
    omega (arith, e, g, h, c.loop-digit.invariant.1, c.if-value-gt1000000000000000000.true)

pub returns-then-value-gt-LEAST : goal.returns-then-value-gt-LEAST
returns-then-value-gt-LEAST c = λ h.
    let e = value_goes c.loop-digit.value c.args.digits.now c.loop-digit.digit-index c.loop-digit-test.true in
    let g = value_grows (c.loop-digit.value * 10 + c.saturating_sub.result) (drop (c.loop-digit.digit-index + 1) c.args.digits.now) in
    let d = ap (λ k. value_from (c.loop-digit.value * 10 + k) (drop (c.loop-digit.digit-index + 1) c.args.digits.now)) c.saturating_sub.ensures in
    omega (arith, e, g, d, h, c.loop-digit.invariant.1, c.if-value-gt-LEAST.true)
