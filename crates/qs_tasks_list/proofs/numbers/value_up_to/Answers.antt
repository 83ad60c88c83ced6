use Rattle.std.proofs.Common.{ℕ, ◌+◌, ◌*◌, ap}
use Rattle.qs_tasks_list.proofs.ListLaws.{too_large}
use Rattle.qs_tasks_list.proofs.numbers.value_up_to.Goals as goal

pub returns-then-value-most : goal.returns-then-value-most
returns-then-value-most c =
    too_large c.args.most c.loop-digit.value (c.loop-digit.value * 10 + c.saturating_sub.result) c.args.digits.now c.loop-digit.digit-index c.loop-digit-test.true c.loop-digit.invariant.1
    (ap (λ (n : ℕ). c.loop-digit.value * 10 + n) c.saturating_sub.ensures) c.if-value-most.true
