use Rattle.std.proofs.Common.{◌≡◌, ◌++◌, drop, map}
use Rattle.qs_triples.specs.Filled.{pre_of}
use Rattle.qs_triples.specs.TreeOf.{entry_tree}
use Rattle.qs_callgraph.specs.CallLists.{numbers}
use Rattle.qs_analyse.specs.Fillable.{entries_only}
use Rattle.qs_analyse.specs.Needs.{needed_calls}
use Rattle.qs_analyse.proofs.entries.needed_calls.Given as goal

abbrev pub invariant-loop-g : goal.invariant-loop-g
invariant-loop-g l =
    l.parts.items ++ needed_calls (pre_of (entries_only (map entry_tree l.entries))) (numbers (drop l.g-index l.callees))
    ≡ needed_calls (pre_of (entries_only (map entry_tree l.entries))) (numbers l.callees)
