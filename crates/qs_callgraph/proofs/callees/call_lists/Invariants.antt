use Rattle.std.proofs.Common.{◌≡◌, map}
use Rattle.qs_core.specs.CallGraph.{below, called_by}
use Rattle.qs_core.specs.UnitTrees.{unit_tree}
use Rattle.qs_callgraph.specs.CallLists.{number_lists}
use Rattle.qs_callgraph.proofs.callees.call_lists.Given as goal

abbrev pub invariant-loop-i : goal.invariant-loop-i
invariant-loop-i l = number_lists l.graph.items ≡ map (called_by (unit_tree l.unit)) (below l.i)
