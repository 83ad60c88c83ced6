use Rattle.std.proofs.Common.{◌≡◌, ◌-◌, drop, map, length}
use Rattle.qs_syntax.specs.TreeOf.{exprs_tree}
use Rattle.qs_types.specs.Expressions.{arguments_fit}
use Rattle.qs_types.specs.TypeOf.{type_tree}
use Rattle.qs_typing_findings.proofs.names.arguments_fit.Given as goal

abbrev pub invariant-loop-i : goal.invariant-loop-i
invariant-loop-i l =
    arguments_fit (map type_tree l.parameters) (exprs_tree l.es) (map type_tree l.us)
    ≡ arguments_fit (map type_tree (drop l.i l.parameters)) (exprs_tree (drop l.i l.es)) (map type_tree (drop l.i l.us))

abbrev pub decreases-loop-i : goal.decreases-loop-i
decreases-loop-i l = length l.initial.parameters - l.i
