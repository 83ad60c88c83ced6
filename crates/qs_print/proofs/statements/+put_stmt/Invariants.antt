use Rattle.std.proofs.Common.{flat_map, map, take}
use Rattle.qs_syntax.specs.TreeOf.{stmt_tree}
use Rattle.qs_print.specs.Printed.{printed_stmt}
use Rattle.qs_print.specs.Words.{Writes}
use Rattle.qs_print.proofs.statements.+put_stmt.Given as goal

-- those so far are written
abbrev pub invariant-put_stmts-loop-s : goal.invariant-put_stmts-loop-s
invariant-put_stmts-loop-s l = Writes l.fn.out.items (flat_map printed_stmt (map stmt_tree (take l.s-index l.items))) l.out.items
