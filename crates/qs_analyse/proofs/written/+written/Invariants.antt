use Rattle.std.proofs.Common.{◌≡◌, ◌++◌, drop, map}
use Rattle.qs_core.specs.TreeOf.{core_stmts}
use Rattle.qs_triples.specs.TreeOf.{derivation_tree}
use Rattle.qs_callgraph.specs.CallLists.{numbers}
use Rattle.qs_analyse.specs.Written.{each_written}
use Rattle.qs_analyse.proofs.written.+written.Given as goal

abbrev pub invariant-all_written-loop-s : goal.invariant-all_written-loop-s
invariant-all_written-loop-s l =
    map derivation_tree l.ds.items ++ each_written l.f.name.now (numbers l.f.callees.now) (core_stmts (drop l.s-index l.ss))
    ≡ each_written l.f.name.now (numbers l.f.callees.now) (core_stmts l.ss)
