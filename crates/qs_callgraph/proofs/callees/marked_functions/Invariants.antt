use Rattle.std.proofs.Common.{◌≡◌, filter}
use Rattle.qs_core.specs.CallGraph.{below}
use Rattle.qs_callgraph.specs.CallLists.{flag, numbers}
use Rattle.qs_callgraph.proofs.callees.marked_functions.Given as goal

abbrev pub invariant-loop-i : goal.invariant-loop-i
invariant-loop-i l = numbers l.fs.items ≡ filter (flag l.marks) (below l.i)
