use Rattle.std.proofs.Common.{◌≡◌, map, drop}
use Rattle.qs_typed_trees.specs.TreeOf.{function_tree}
use Rattle.qs_meaning.specs.Runs.{main_from}
use Rattle.qs_elaborate.proofs.unit.main_among.Given as goal

-- none so far is main
abbrev pub invariant-loop-i : goal.invariant-loop-i
invariant-loop-i l = main_from l.i (map function_tree (drop l.i l.gs)) ≡ main_from 0 (map function_tree l.gs)
