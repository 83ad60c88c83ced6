use Rattle.std.proofs.Common.{◌≡◌, ◌++◌, map, drop}
use Rattle.qs_core.specs.TreeOf.{parameter_tree}
use Rattle.qs_elaborate_bodies.specs.Units.{named_parameters}
use Rattle.qs_elaborate.proofs.function.named_parameters.Given as goal

-- those so far are named, and the rest gives the whole
abbrev pub invariant-loop-i : goal.invariant-loop-i
invariant-loop-i l = map parameter_tree l.named.items ++ named_parameters (drop l.i l.names) (drop l.i l.parameters) ≡ named_parameters l.names l.parameters
