use Rattle.std.proofs.Common.{◌≡◌, drop, map}
use Rattle.qs_core.specs.UnitTrees.{unit_tree}
use Rattle.qs_triples.specs.TreeOf.{entry_tree}
use Rattle.qs_callgraph.specs.CallLists.{flag, numbers}
use Rattle.qs_analyse.specs.Fillable.{with_entries}
use Rattle.qs_analyse.proofs.entries.add_entries.Given as goal

abbrev pub invariant-loop-f : goal.invariant-loop-f
invariant-loop-f l =
    with_entries (unit_tree l.unit) (flag l.is_open) (map entry_tree l.entries.items) (numbers (drop l.f-index l.fs))
    ≡ with_entries (unit_tree l.unit) (flag l.is_open) (map entry_tree l.initial.entries.items) (numbers l.fs)
