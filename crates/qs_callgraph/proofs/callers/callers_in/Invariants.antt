use Rattle.qs_callgraph.specs.CallLists.{number_lists}
use Rattle.qs_callgraph.proofs.CallerLaws.{AddedBelow}
use Rattle.qs_callgraph.proofs.callers.callers_in.Given as goal

abbrev pub invariant-loop-i : goal.invariant-loop-i
invariant-loop-i l = AddedBelow (number_lists l.graph) (number_lists l.callers.items) l.i
