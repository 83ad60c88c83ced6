use Rattle.std.proofs.Common.{◌+◌, length}
use Rattle.qs_callgraph.specs.CallLists.{number_lists, numbers}
use Rattle.qs_callgraph.specs.Opens.{Closes, count_open}
use Rattle.qs_callgraph.proofs.opening.closed_ones.Given as goal

abbrev pub invariant-loop-g : goal.invariant-loop-g
invariant-loop-g l = Closes (number_lists l.callers) l.has_spec l.closed.items (numbers l.due.items)

abbrev pub decreases-loop-g : goal.decreases-loop-g
decreases-loop-g l = length l.due.items + count_open l.closed.items
