use Rattle.std.proofs.Common.{◌≡◌, ◌++◌, drop}
use Rattle.qs_syntax.specs.TreeOf.{exprs_tree}
use Rattle.qs_typed_units.specs.Addressed.{all_addressed}
use Rattle.qs_typed_units.proofs.addressed.+addressed.Given as goal

abbrev pub invariant-all_addressed-loop-e : goal.invariant-all_addressed-loop-e
invariant-all_addressed-loop-e l =
    l.initial.nodes.items ++ all_addressed l.names (exprs_tree l.es) ≡ l.nodes.items ++ all_addressed l.names (exprs_tree (drop l.e-index l.es))
