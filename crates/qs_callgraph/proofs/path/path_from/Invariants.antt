use Rattle.std.proofs.Common.{◌≡◌, false, take}
use Rattle.qs_core.specs.CallGraph.{is_member}
use Rattle.qs_callgraph.specs.CallLists.{numbers}
use Rattle.qs_callgraph.proofs.path.path_from.Given as goal

abbrev pub invariant-loop-i : goal.invariant-loop-i
invariant-loop-i l = is_member l.g.0 (numbers (take l.i l.path)) ≡ false
