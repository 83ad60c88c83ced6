use Rattle.std.proofs.Common.{◌≡◌, [], replicate}
use Rattle.qs_callgraph.specs.CallLists.{number_lists}
use Rattle.qs_callgraph.proofs.callers.no_callers.Given as goal

abbrev pub invariant-loop-i : goal.invariant-loop-i
invariant-loop-i l = number_lists l.callers.items ≡ replicate l._i []
