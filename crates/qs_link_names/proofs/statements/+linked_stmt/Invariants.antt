use Rattle.std.proofs.Common.{◌≡◌, ◌++◌, map, drop}
use Rattle.qs_syntax.specs.TreeOf.{stmt_tree}
use Rattle.qs_link_names.specs.InternalOf.{internal_of}
use Rattle.qs_link_names.proofs.ListLaws.{linked_items}
use Rattle.qs_link_names.proofs.statements.+linked_stmt.Given as goal

abbrev pub invariant-linked_stmts-loop-s : goal.invariant-linked_stmts-loop-s
invariant-linked_stmts-loop-s l = record {
  tree : map stmt_tree l.to.items ++ linked_items (internal_of l.inner) (map stmt_tree (drop l.s-index l.from)) ≡ linked_items (internal_of l.own) (map stmt_tree l.from);
}
