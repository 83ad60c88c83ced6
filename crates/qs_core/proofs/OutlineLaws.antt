-- The count of a list of statements.
use Rattle.std.proofs.Common.{◌≡◌, ◌+◌, List, [], ◌∷◌, length, map, refl, ap, ◌∙◌, arith}
use Rattle.qs_core.specs.Trees.{stmts_of}
use Rattle.qs_core.specs.TreeOf.{core_stmt}
use Rattle.qs_core.specs.Outline.{count_of}
use Rattle.qs_core.specs.declared.statements.CoreStmt.{CoreStmt}

pub count_of_stmts : (ss : List CoreStmt) → count_of (stmts_of (map core_stmt ss)) ≡ length ss
count_of_stmts [] = refl
count_of_stmts (s ∷ ss) = ap (λ n. n + 1) (count_of_stmts ss) ∙ omega arith
