use Rattle.std.proofs.Common.{◌≡◌, map, drop}
use Rattle.qs_syntax.specs.TreeOf.{stmts_tree}
use Rattle.qs_meaning.specs.Typed.{stmt_and}
use Rattle.qs_typed_trees.specs.TreeOf.{statement_tree}
use Rattle.qs_typed_nodes.specs.Behind.{behind}
use Rattle.qs_typed_nodes.specs.KnownOf.{known_tree}
use Rattle.qs_typed_nodes.specs.KnownStatements.{statements_known}
use Rattle.qs_typed_bodies.proofs.bodies.+statement.Given as goal

abbrev pub invariant-statements-loop-s : goal.invariant-statements-loop-s
invariant-statements-loop-s l =
    statements_known (known_tree l.k) (stmts_tree l.ss)
    ≡ behind stmt_and (map statement_tree l.all.items) (statements_known (known_tree l.k) (stmts_tree (drop l.s-index l.ss)))
