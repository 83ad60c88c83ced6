use Rattle.std.proofs.Common.{◌≡◌, [], take, drop}
use Rattle.qs_assert.specs.Order.{order_fault_behind}
use Rattle.qs_assert.proofs.order.order_fault.Given as goal

-- so far all are in order
abbrev pub invariant-loop-i : goal.invariant-loop-i
invariant-loop-i l = order_fault_behind l.defines [] ≡ order_fault_behind (drop l.i l.defines) (take l.i l.defines)
