use Rattle.std.proofs.Common.{◌≡◌, ◌++◌, drop, map}
use Rattle.std.specs.Vec.Iter.{into_iter_items}
use Rattle.qs_core.specs.UnitTrees.{unit_tree}
use Rattle.qs_triples.specs.Filled.{open_definition}
use Rattle.qs_callgraph.specs.CallLists.{numbers}
use Rattle.qs_analyse.proofs.definitions.definitions.Given as goal

abbrev pub invariant-loop-f : goal.invariant-loop-f
invariant-loop-f l =
    l.defines.items ++ map (open_definition (unit_tree l.unit)) (numbers (drop l.f-index l.opened)) ≡ map (open_definition (unit_tree l.unit)) (numbers l.opened)

abbrev pub invariant-loop-d : goal.invariant-loop-d
invariant-loop-d l = l.defines.items ++ into_iter_items l.d-iterator ≡ l.initial.defines.items ++ into_iter_items l.initial.d-iterator
