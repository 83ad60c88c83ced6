-- The trees of statements that have two parts or more.
use Rattle.std.proofs.Common.{◌≡◌, sym, ap, ◌∙◌}
use Rattle.std.specs.Prelude.{Box, Option, None, Some, Vec}
use Rattle.std.specs.declared.alloc.Global.{Global}
use Rattle.qs_syntax.specs.declared.expressions.Expr.{Expr}
use Rattle.qs_syntax.specs.declared.nodes.Node.{Node}
use Rattle.qs_syntax.specs.declared.statements.Start.{Start}
use Rattle.qs_syntax.specs.declared.statements.Stmt.{Stmt, Stmt-F, fold-roll-Stmt}
use Rattle.qs_syntax.specs.declared.statements.Stmt.TheVariants as stmts
use Rattle.qs_syntax.specs.TreeOf.{expr_tree, else_tree, option_tree, start_tree, stmt_step, stmt_tree, stmts_tree}
use Rattle.qs_syntax.specs.Trees.{StmtTree, branch, do_loop, for_loop, switch, while_loop}

pub while_loop_tree : (n : Node) (e : Expr) (s : Box Stmt Global) → stmt_tree (stmts.While n e s) ≡ while_loop n (expr_tree e) (stmt_tree s.value)
while_loop_tree n e s = ap stmt_tree (sym (stmts.rolls-While n e s)) ∙ fold-roll-Stmt StmtTree stmt_step (Stmt-F.While n e s)

pub switch_tree : (n : Node) (e : Expr) (ss : Vec Stmt Global) → stmt_tree (stmts.Switch n e ss) ≡ switch n (expr_tree e) (stmts_tree ss.items)
switch_tree n e ss = ap stmt_tree (sym (stmts.rolls-Switch n e ss)) ∙ fold-roll-Stmt StmtTree stmt_step (Stmt-F.Switch n e ss)

pub do_loop_tree : (n : Node) (s : Box Stmt Global) (e : Expr) → stmt_tree (stmts.Do n s e) ≡ do_loop n (stmt_tree s.value) (expr_tree e)
do_loop_tree n s e = ap stmt_tree (sym (stmts.rolls-Do n s e)) ∙ fold-roll-Stmt StmtTree stmt_step (Stmt-F.Do n s e)

pub for_loop_tree : (n : Node) (start : Start) (e : Option Expr) (u : Option Expr) (s : Box Stmt Global) → stmt_tree (stmts.For n start e u s) ≡ for_loop n (start_tree start) (option_tree e) (option_tree u) (stmt_tree s.value)
for_loop_tree n start e u s = ap stmt_tree (sym (stmts.rolls-For n start e u s)) ∙ fold-roll-Stmt StmtTree stmt_step (Stmt-F.For n start e u s)

pub branch_tree : (n : Node) (e : Expr) (s : Box Stmt Global) (t : Option (Box Stmt Global)) → stmt_tree (stmts.If n e s t) ≡ branch n (expr_tree e) (stmt_tree s.value) (else_tree t)
branch_tree n e s None = ap stmt_tree (sym (stmts.rolls-If n e s None)) ∙ fold-roll-Stmt StmtTree stmt_step (Stmt-F.If n e s None)
branch_tree n e s (Some b) = ap stmt_tree (sym (stmts.rolls-If n e s (Some b))) ∙ fold-roll-Stmt StmtTree stmt_step (Stmt-F.If n e s (Some b))
