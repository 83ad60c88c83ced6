use Rattle.std.proofs.Common.{◌≡◌, drop}
use Rattle.qs_core.specs.CallGraph.{all_callees}
use Rattle.qs_core.specs.TreeOf.{core_stmts}
use Rattle.qs_core.specs.Trees.{stmts_of}
use Rattle.qs_callgraph.specs.CallLists.{marked}
use Rattle.qs_callgraph.proofs.callees.+mark_callees.Given as goal

abbrev pub invariant-mark_all_callees-loop-s : goal.invariant-mark_all_callees-loop-s
invariant-mark_all_callees-loop-s l =
    marked (all_callees (stmts_of (core_stmts (drop l.s-index l.ss)))) l.marks ≡ marked (all_callees (stmts_of (core_stmts l.ss))) l.initial.marks
