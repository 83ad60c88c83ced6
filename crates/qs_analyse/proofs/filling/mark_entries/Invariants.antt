use Rattle.std.proofs.Common.{◌≡◌, drop, map}
use Rattle.qs_triples.specs.TreeOf.{entry_tree}
use Rattle.qs_callgraph.specs.CallLists.{marked}
use Rattle.qs_analyse.specs.Fillable.{entry_functions}
use Rattle.qs_analyse.proofs.filling.mark_entries.Given as goal

abbrev pub invariant-loop-e : goal.invariant-loop-e
invariant-loop-e l =
    marked (entry_functions (map entry_tree (drop l.e-index l.entries))) l.flags ≡ marked (entry_functions (map entry_tree l.entries)) l.initial.flags
