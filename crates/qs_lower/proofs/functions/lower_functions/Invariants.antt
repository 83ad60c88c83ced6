use Rattle.std.proofs.Common.{◌≡◌, ◌++◌, map, drop}
use Rattle.qs_core.specs.TreeOf as core
use Rattle.qs_tac.specs.TreeOf.{function_tree}
use Rattle.qs_lower_expressions.specs.Threads.{threaded_function}
use Rattle.qs_lower.specs.Units.{straight_function}
use Rattle.qs_lower.proofs.functions.lower_functions.Given as goal

abbrev pub invariant-loop-f : goal.invariant-loop-f
invariant-loop-f l =
    map function_tree l.all.items ++ map threaded_function (map straight_function (map core.function_tree (drop l.f-index l.fs)))
    ≡ map threaded_function (map straight_function (map core.function_tree l.fs))
