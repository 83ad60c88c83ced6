use Rattle.std.proofs.Common.{◌≡◌, ◌++◌, map, drop}
use Rattle.qs_syntax.specs.TreeOf.{expr_tree}
use Rattle.qs_typed_units.specs.Addressed.{each_addressed}
use Rattle.qs_typed_units.proofs.addressed.each_addressed.Given as goal

abbrev pub invariant-loop-e : goal.invariant-loop-e
invariant-loop-e l =
    l.initial.nodes.items ++ each_addressed l.names (map expr_tree l.es) ≡ l.nodes.items ++ each_addressed l.names (map expr_tree (drop l.e-index l.es))
