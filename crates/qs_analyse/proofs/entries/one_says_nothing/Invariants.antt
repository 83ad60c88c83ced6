use Rattle.std.proofs.Common.{◌≡◌, drop, map}
use Rattle.std.specs.List.{list_any}
use Rattle.qs_triples.specs.Filled.{is_useless, pre_of}
use Rattle.qs_triples.specs.TreeOf.{entry_tree}
use Rattle.qs_callgraph.specs.CallLists.{numbers}
use Rattle.qs_analyse.specs.Fillable.{entries_only}
use Rattle.qs_analyse.proofs.entries.one_says_nothing.Given as goal

abbrev pub invariant-loop-g : goal.invariant-loop-g
invariant-loop-g l =
    list_any (λ g. is_useless (pre_of (entries_only (map entry_tree l.entries)) g)) (numbers (drop l.g-index l.callees))
    ≡ list_any (λ g. is_useless (pre_of (entries_only (map entry_tree l.entries)) g)) (numbers l.callees)
