-- Lists of parts with linked names, as lists and as parts of trees.
use Rattle.std.proofs.Common.{◌≡◌, List, [], ◌∷◌, map, refl, ap}
use Rattle.qs_syntax.specs.Trees.{ExprTree, expr_and, exprs_of, InitialiserTree, initialiser_and, initialisers_of, StmtTree, stmt_and, stmts_of}
use Rattle.qs_link_names.specs.Linkage.{Internal}
use Rattle.qs_link_names.specs.LinkedExpressions.{linked_expr, linked_exprs, linked_list}
use Rattle.qs_link_names.specs.LinkedDeclarations.{linked_initialiser, linked_initialisers}
use Rattle.qs_link_names.specs.LinkedStatements.{linked_stmt, linked_stmts, behind_statement}

pub exprs_linked : (own : Internal) (es : List ExprTree) → exprs_of (linked_list own es) ≡ linked_exprs own (exprs_of es)
exprs_linked own [] = refl
exprs_linked own (e ∷ es) = ap (λ xs. expr_and (linked_expr own e) xs) (exprs_linked own es)

pub initialisers_linked : (own : Internal) (is : List InitialiserTree) → initialisers_of (map (linked_initialiser own) is) ≡ linked_initialisers own (initialisers_of is)
initialisers_linked own [] = refl
initialisers_linked own (i ∷ is) = ap (λ xs. initialiser_and (linked_initialiser own i) xs) (initialisers_linked own is)

-- the statements of a block as a list
abbrev pub linked_items : Internal → List StmtTree → List StmtTree
linked_items own [] = []
linked_items own (s ∷ ss) = linked_stmt own s ∷ linked_items (behind_statement own s) ss

pub stmts_linked : (own : Internal) (ss : List StmtTree) → stmts_of (linked_items own ss) ≡ linked_stmts own (stmts_of ss)
stmts_linked own [] = refl
stmts_linked own (s ∷ ss) = ap (λ xs. stmt_and (linked_stmt own s) xs) (stmts_linked (behind_statement own s) ss)
