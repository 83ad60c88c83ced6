use Rattle.std.proofs.Common.{◌≡◌, ◌++◌, drop}
use Rattle.qs_syntax.specs.TreeOf.{stmts_tree}
use Rattle.qs_typed_units.specs.Addressed.{statements_addressed}
use Rattle.qs_typed_units.proofs.addressed.+statements.Given as goal

abbrev pub invariant-statements_addressed-loop-s : goal.invariant-statements_addressed-loop-s
invariant-statements_addressed-loop-s l =
    l.initial.nodes.items ++ statements_addressed l.names (stmts_tree l.ss) ≡ l.nodes.items ++ statements_addressed l.names (stmts_tree (drop l.s-index l.ss))
