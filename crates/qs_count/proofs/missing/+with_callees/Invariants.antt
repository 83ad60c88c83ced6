use Rattle.std.proofs.Common.{◌≡◌, drop}
use Rattle.qs_core.specs.CallGraph.{all_callees}
use Rattle.qs_core.specs.TreeOf.{core_stmts}
use Rattle.qs_core.specs.Trees.{stmts_of}
use Rattle.qs_count.specs.Missing.{with_all}
use Rattle.qs_count.proofs.missing.+with_callees.Given as goal

abbrev pub invariant-with_all_callees-loop-s : goal.invariant-with_all_callees-loop-s
invariant-with_all_callees-loop-s l =
    with_all l.proofs l.first (all_callees (stmts_of (core_stmts (drop l.s-index l.ss))))
    ≡ with_all l.proofs l.fn.found (all_callees (stmts_of (core_stmts l.ss)))
