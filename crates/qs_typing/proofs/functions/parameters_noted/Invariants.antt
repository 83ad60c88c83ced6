use Rattle.std.proofs.Common.{◌≡◌, ◌-◌, ◌++◌, drop, length, map, option_map}
use Rattle.qs_syntax.specs.TreeOf.{parameter_tree}
use Rattle.qs_types.specs.EnvOf.{env_tree}
use Rattle.qs_types.specs.TypeOf.{type_tree}
use Rattle.qs_typing_findings.specs.Noted.{parameters_noted}
use Rattle.qs_typing_findings.specs.NotedOf.{local_tree}
use Rattle.qs_typing.proofs.functions.parameters_noted.Given as goal

abbrev pub invariant-loop-i : goal.invariant-loop-i
invariant-loop-i l =
    parameters_noted (env_tree l.structs) (map parameter_tree l.ps) (map (option_map type_tree) l.types)
    ≡ map local_tree l.locals.items ++ parameters_noted (env_tree l.structs) (map parameter_tree (drop l.i l.ps)) (map (option_map type_tree) (drop l.i l.types))

abbrev pub decreases-loop-i : goal.decreases-loop-i
decreases-loop-i l = length l.initial.ps - l.i
