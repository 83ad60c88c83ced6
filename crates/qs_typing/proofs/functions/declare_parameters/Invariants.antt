use Rattle.std.proofs.Common.{◌≡◌, ◌-◌, drop, length, map, option_map}
use Rattle.qs_syntax.specs.TreeOf.{parameter_tree}
use Rattle.qs_types.specs.TypeOf.{type_tree}
use Rattle.qs_types.specs.UnitRules.{with_parameters}
use Rattle.qs_typing_findings.specs.ContextOf.{context_tree}
use Rattle.qs_typing.proofs.functions.declare_parameters.Given as goal

abbrev pub invariant-loop-i : goal.invariant-loop-i
invariant-loop-i l =
    with_parameters (context_tree l.initial.c) (map parameter_tree l.ps) (map (option_map type_tree) l.types)
    ≡ with_parameters (context_tree l.c) (map parameter_tree (drop l.i l.ps)) (map (option_map type_tree) (drop l.i l.types))

abbrev pub decreases-loop-i : goal.decreases-loop-i
decreases-loop-i l = length l.initial.ps - l.i
