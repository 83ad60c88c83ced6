use Rattle.std.proofs.Common.{◌≡◌, ◌++◌, map, drop}
use Rattle.qs_core.specs.TreeOf.{function_tree}
use Rattle.qs_typed_trees.specs.TreeOf as typed
use Rattle.qs_elaborate.specs.NamesOf.{names_of}
use Rattle.qs_elaborate_bodies.specs.Units.{functions_core}
use Rattle.qs_elaborate.proofs.function.functions.Given as goal

-- those so far are done, and the rest gives the whole
abbrev pub invariant-loop-i : goal.invariant-loop-i
invariant-loop-i l =
    map function_tree l.functions.items ++ functions_core (drop l.i (map names_of l.names)) (drop l.i (map typed.function_tree l.gs))
    ≡ functions_core (map names_of l.names) (map typed.function_tree l.gs)
