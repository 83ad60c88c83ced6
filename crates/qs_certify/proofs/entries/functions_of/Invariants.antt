use Rattle.std.proofs.Common.{◌≡◌, ◌++◌, drop, map}
use Rattle.qs_triples.specs.TreeOf.{entry_tree}
use Rattle.qs_callgraph.specs.CallLists.{numbers}
use Rattle.qs_analyse.specs.Fillable.{entry_functions}
use Rattle.qs_certify.proofs.entries.functions_of.Given as goal

abbrev pub invariant-loop-e : goal.invariant-loop-e
invariant-loop-e l =
    numbers l.functions.items ++ entry_functions (map entry_tree (drop l.e-index l.entries)) ≡ entry_functions (map entry_tree l.entries)
