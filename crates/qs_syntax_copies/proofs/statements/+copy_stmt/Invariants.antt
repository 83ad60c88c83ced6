use Rattle.std.proofs.Common.{◌≡◌, ◌++◌, map, drop}
use Rattle.qs_syntax.specs.TreeOf.{stmt_tree}
use Rattle.qs_syntax_copies.proofs.statements.+copy_stmt.Given as goal

abbrev pub invariant-copy_stmts-loop-s : goal.invariant-copy_stmts-loop-s
invariant-copy_stmts-loop-s l = record {
  tree : map stmt_tree l.to.items ++ map stmt_tree (drop l.s-index l.from) ≡ map stmt_tree l.from;
}
