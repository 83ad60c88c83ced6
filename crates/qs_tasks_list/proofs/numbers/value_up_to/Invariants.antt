use Rattle.std.proofs.Common.{◌≡◌, ◌≤◌, drop}
use Rattle.qs_tasks_list.specs.Lines.{value_from}
use Rattle.qs_tasks_list.proofs.numbers.value_up_to.Given as goal

abbrev pub invariant-loop-digit : goal.invariant-loop-digit
invariant-loop-digit l = (l.value ≤ l.most) × (value_from l.value (drop l.digit-index l.digits) ≡ value_from 0 l.fn.digits)
