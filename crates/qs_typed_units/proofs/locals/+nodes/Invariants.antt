use Rattle.std.proofs.Common.{◌≡◌, ◌++◌, drop}
use Rattle.qs_syntax.specs.TreeOf.{stmts_tree}
use Rattle.qs_typed_nodes.specs.KnownFunctions.{statements_nodes}
use Rattle.qs_typed_units.proofs.locals.+nodes.Given as goal

abbrev pub invariant-statements_nodes-loop-s : goal.invariant-statements_nodes-loop-s
invariant-statements_nodes-loop-s l =
    l.initial.nodes.items ++ statements_nodes (stmts_tree l.ss) ≡ l.nodes.items ++ statements_nodes (stmts_tree (drop l.s-index l.ss))
