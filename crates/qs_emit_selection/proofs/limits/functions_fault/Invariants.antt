use Rattle.std.proofs.Common.{◌≡◌, map, drop}
use Rattle.qs_tac.specs.TreeOf.{function_tree}
use Rattle.qs_tac.specs.Places.{places_tree}
use Rattle.qs_emit_selection.specs.Limits.{functions_fault}
use Rattle.qs_emit_selection.proofs.limits.functions_fault.Given as goal

abbrev pub invariant-loop-f : goal.invariant-loop-f
invariant-loop-f l =
    functions_fault (map places_tree l.fn.places) l.f (map function_tree (drop l.f l.functions))
    ≡ functions_fault (map places_tree l.fn.places) 0 (map function_tree l.functions)
