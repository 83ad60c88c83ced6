use Rattle.std.proofs.Common.{map, take}
use Rattle.qs_tac.specs.TreeOf.{function_tree}
use Rattle.qs_tac.specs.Places.{places_tree}
use Rattle.qs_alloc.specs.Packing.{AllPacked}
use Rattle.qs_alloc.proofs.assignment.assign_all.Given as goal

abbrev pub invariant-loop-f : goal.invariant-loop-f
invariant-loop-f l = AllPacked (map function_tree (take l.f-index l.functions)) (map places_tree l.all.items)
