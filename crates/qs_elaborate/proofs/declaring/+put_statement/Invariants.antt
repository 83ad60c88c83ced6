use Rattle.std.proofs.Common.{◌≡◌, ◌++◌, map, drop}
use Rattle.qs_syntax.specs.TreeOf.{stmts_tree}
use Rattle.qs_elaborate.specs.DeclaredOf.{declared_of}
use Rattle.qs_elaborate_bodies.specs.Names.{statements_declare}
use Rattle.qs_elaborate.proofs.declaring.+put_statement.Given as goal

-- those so far are there, and the rest gives the whole
abbrev pub invariant-put_statements-loop-s : goal.invariant-put_statements-loop-s
invariant-put_statements-loop-s l =
    map declared_of l.out.items ++ statements_declare (stmts_tree (drop l.s-index l.ss))
    ≡ map declared_of l.fn.out.items ++ statements_declare (stmts_tree l.ss)
