use Rattle.std.proofs.Common.{◌≡◌, ◌++◌, map, drop}
use Rattle.qs_core.specs.TreeOf.{variable_tree}
use Rattle.qs_elaborate.specs.NamesOf.{variable_name_of}
use Rattle.qs_elaborate_bodies.specs.Units.{named_variables}
use Rattle.qs_elaborate.proofs.function.named_variables.Given as goal

-- those so far are named, and the rest gives the whole
abbrev pub invariant-loop-i : goal.invariant-loop-i
invariant-loop-i l =
    map variable_tree l.named.items ++ named_variables (drop l.i (map variable_name_of l.names)) (drop l.i l.scalars)
    ≡ named_variables (map variable_name_of l.names) l.scalars
