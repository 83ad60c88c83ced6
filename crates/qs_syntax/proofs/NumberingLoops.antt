-- Arguments, initialisers in braces and statements of a block are lists of their own: how they are counted and numbered as lists. The lemmas
-- that functions which number nodes need stand together as rules.
use Rattle.std.proofs.Common.{◌≡◌, ℕ, ◌+◌, List, [], ◌∷◌, ◌++◌, refl, ap}
use Rattle.std.proofs.lemmas.List.{with_items_is}
use Rattle.qs_syntax.proofs.NodeLaws.{tokens_of_both}
use Rattle.qs_syntax.specs.Trees.{ExprTree, expr_and, exprs_of, InitialiserTree, initialiser_and, initialisers_of, StmtTree, stmt_and, stmts_of}
use Rattle.qs_syntax.specs.Nodes.{all_count, all_nodes, expr_count, exprs_count, expr_nodes, exprs_nodes, initialiser_count, initialisers_count, initialiser_nodes, initialisers_nodes, stmt_count, stmts_count, stmt_nodes, stmts_nodes}
use Rattle.qs_syntax.specs.Numbering.{numbered, relabel_all, relabel_expr, relabel_exprs, relabel_initialiser, relabel_initialisers, relabel_stmt, relabel_stmts}

pub exprs_count_of : (es : List ExprTree) → exprs_count (exprs_of es) ≡ all_count expr_count es
exprs_count_of [] = refl
exprs_count_of (e ∷ es) = ap (λ k. expr_count e + k) (exprs_count_of es)

pub exprs_nodes_of : (es : List ExprTree) → exprs_nodes (exprs_of es) ≡ all_nodes expr_nodes es
exprs_nodes_of [] = refl
exprs_nodes_of (e ∷ es) = ap (λ l. expr_nodes e ++ l) (exprs_nodes_of es)

pub exprs_of_relabelled : (n : ℕ) (es : List ExprTree) → relabel_exprs numbered n (exprs_of es) ≡ exprs_of (relabel_all numbered expr_count (relabel_expr numbered) n es)
exprs_of_relabelled n [] = refl
exprs_of_relabelled n (e ∷ es) = ap (expr_and (relabel_expr numbered n e)) (exprs_of_relabelled (n + expr_count e) es)

pub initialisers_count_of : (is : List InitialiserTree) → initialisers_count (initialisers_of is) ≡ all_count initialiser_count is
initialisers_count_of [] = refl
initialisers_count_of (i ∷ is) = ap (λ k. initialiser_count i + k) (initialisers_count_of is)

pub initialisers_nodes_of : (is : List InitialiserTree) → initialisers_nodes (initialisers_of is) ≡ all_nodes initialiser_nodes is
initialisers_nodes_of [] = refl
initialisers_nodes_of (i ∷ is) = ap (λ l. initialiser_nodes i ++ l) (initialisers_nodes_of is)

pub initialisers_of_relabelled : (n : ℕ) (is : List InitialiserTree) → relabel_initialisers numbered n (initialisers_of is) ≡ initialisers_of (relabel_all numbered initialiser_count (relabel_initialiser numbered) n is)
initialisers_of_relabelled n [] = refl
initialisers_of_relabelled n (i ∷ is) = ap (initialiser_and (relabel_initialiser numbered n i)) (initialisers_of_relabelled (n + initialiser_count i) is)

pub stmts_count_of : (ss : List StmtTree) → stmts_count (stmts_of ss) ≡ all_count stmt_count ss
stmts_count_of [] = refl
stmts_count_of (s ∷ ss) = ap (λ k. stmt_count s + k) (stmts_count_of ss)

pub stmts_nodes_of : (ss : List StmtTree) → stmts_nodes (stmts_of ss) ≡ all_nodes stmt_nodes ss
stmts_nodes_of [] = refl
stmts_nodes_of (s ∷ ss) = ap (λ l. stmt_nodes s ++ l) (stmts_nodes_of ss)

pub stmts_of_relabelled : (n : ℕ) (ss : List StmtTree) → relabel_stmts numbered n (stmts_of ss) ≡ stmts_of (relabel_all numbered stmt_count (relabel_stmt numbered) n ss)
stmts_of_relabelled n [] = refl
stmts_of_relabelled n (s ∷ ss) = ap (stmt_and (relabel_stmt numbered n s)) (stmts_of_relabelled (n + stmt_count s) ss)

-- ---- the rules

pub ruleset numbering = (tokens_of_both, with_items_is)

pub ruleset exprs_numbering = (exprs_count_of, exprs_nodes_of, exprs_of_relabelled, with_items_is)

pub ruleset initialisers_numbering = (tokens_of_both, initialisers_count_of, initialisers_nodes_of, initialisers_of_relabelled, with_items_is)

pub ruleset stmts_numbering = (stmts_count_of, stmts_nodes_of, stmts_of_relabelled, with_items_is)
