-- The trees of the program's values, for each variant that has parts.
use Rattle.std.proofs.Common.{◌≡◌, ℕ, List, sym, ap, ◌∙◌}
use Rattle.std.specs.Prelude.{Box, Option, None, Some}
use Rattle.std.specs.declared.alloc.Global.{Global}
use Rattle.std.specs.declared.vec.Vec.{Vec}
use Rattle.qs_syntax_vocabulary.specs.declared.operators.Access.{Access}
use Rattle.qs_syntax_vocabulary.specs.declared.operators.AssignmentOperator.{AssignmentOperator}
use Rattle.qs_syntax_vocabulary.specs.declared.operators.BinaryOperator.{BinaryOperator}
use Rattle.qs_syntax.specs.declared.expressions.Expr.{Expr}
use Rattle.qs_syntax.specs.declared.expressions.Shape.{Shape-F, fold-roll-Shape}
use Rattle.qs_syntax.specs.declared.expressions.Shape.TheVariants as shapes
use Rattle.qs_syntax.specs.declared.declarations.Initialiser.{Initialiser-F, fold-roll-Initialiser}
use Rattle.qs_syntax.specs.declared.declarations.Initialiser.TheVariants as initialisers
use Rattle.qs_syntax.specs.declared.declarations.InitialiserList.{InitialiserList, fold_out-InitialiserList}
use Rattle.qs_syntax.specs.declared.nodes.Node.{Node}
use Rattle.qs_syntax.specs.declared.statements.Start.{Start}
use Rattle.qs_syntax.specs.declared.statements.Stmt.{Stmt, Stmt-F, fold-roll-Stmt}
use Rattle.qs_syntax.specs.declared.statements.Stmt.TheVariants as stmts
use Rattle.qs_syntax.specs.declared.types.TypeName.{TypeName}
use Rattle.qs_syntax.specs.TreeOf.{expr_step, expr_tree, exprs_tree, else_tree, initialiser_step, initialiser_tree, initialisers_tree, list_step, option_tree, shape_step, shape_tree, start_tree, stmt_step, stmt_tree, stmts_tree}
use Rattle.qs_syntax.specs.Trees.{ExprTree, InitialiserTree, ShapeTree, StmtTree, list, switch, branch, do_loop, expression, for_loop, return, while_loop, assign, binary, call, cast, conditional, comma, subscript, member, sizeof_expr, sizeof_type}

pub cast_tree : (type : TypeName) (a : Box Expr Global) → shape_tree (shapes.Cast type a) ≡ cast type (expr_tree a.value)
cast_tree type a = ap shape_tree (sym (shapes.rolls-Cast type a)) ∙ fold-roll-Shape ShapeTree ExprTree shape_step expr_step (Shape-F.Cast type a)

pub sizeof_type_tree : (type : TypeName) → shape_tree (shapes.SizeofType type) ≡ sizeof_type type
sizeof_type_tree type = ap shape_tree (sym (shapes.rolls-SizeofType type)) ∙ fold-roll-Shape ShapeTree ExprTree shape_step expr_step (Shape-F.SizeofType type)

pub sizeof_expr_tree : (a : Box Expr Global) → shape_tree (shapes.SizeofExpr a) ≡ sizeof_expr (expr_tree a.value)
sizeof_expr_tree a = ap shape_tree (sym (shapes.rolls-SizeofExpr a)) ∙ fold-roll-Shape ShapeTree ExprTree shape_step expr_step (Shape-F.SizeofExpr a)

pub binary_tree : (operator : BinaryOperator) (a : Box Expr Global) (b : Box Expr Global) → shape_tree (shapes.Binary operator a b) ≡ binary operator (expr_tree a.value) (expr_tree b.value)
binary_tree operator a b = ap shape_tree (sym (shapes.rolls-Binary operator a b)) ∙ fold-roll-Shape ShapeTree ExprTree shape_step expr_step (Shape-F.Binary operator a b)

pub assign_tree : (operator : AssignmentOperator) (a : Box Expr Global) (b : Box Expr Global) → shape_tree (shapes.Assign operator a b) ≡ assign operator (expr_tree a.value) (expr_tree b.value)
assign_tree operator a b = ap shape_tree (sym (shapes.rolls-Assign operator a b)) ∙ fold-roll-Shape ShapeTree ExprTree shape_step expr_step (Shape-F.Assign operator a b)

pub conditional_tree : (a : Box Expr Global) (b : Box Expr Global) (c : Box Expr Global) → shape_tree (shapes.Conditional a b c) ≡ conditional (expr_tree a.value) (expr_tree b.value) (expr_tree c.value)
conditional_tree a b c = ap shape_tree (sym (shapes.rolls-Conditional a b c)) ∙ fold-roll-Shape ShapeTree ExprTree shape_step expr_step (Shape-F.Conditional a b c)

pub comma_tree : (a : Box Expr Global) (b : Box Expr Global) → shape_tree (shapes.Comma a b) ≡ comma (expr_tree a.value) (expr_tree b.value)
comma_tree a b = ap shape_tree (sym (shapes.rolls-Comma a b)) ∙ fold-roll-Shape ShapeTree ExprTree shape_step expr_step (Shape-F.Comma a b)

pub subscript_tree : (a : Box Expr Global) (b : Box Expr Global) → shape_tree (shapes.Subscript a b) ≡ subscript (expr_tree a.value) (expr_tree b.value)
subscript_tree a b = ap shape_tree (sym (shapes.rolls-Subscript a b)) ∙ fold-roll-Shape ShapeTree ExprTree shape_step expr_step (Shape-F.Subscript a b)

pub member_tree : (access : Access) (a : Box Expr Global) (x : List ℕ) → shape_tree (shapes.Member access a x) ≡ member access (expr_tree a.value) x
member_tree access a x = ap shape_tree (sym (shapes.rolls-Member access a x)) ∙ fold-roll-Shape ShapeTree ExprTree shape_step expr_step (Shape-F.Member access a x)

pub call_tree : (f : List ℕ) (es : Vec Expr Global) → shape_tree (shapes.Call f es) ≡ call f (exprs_tree es.items)
call_tree f es = ap shape_tree (sym (shapes.rolls-Call f es)) ∙ fold-roll-Shape ShapeTree ExprTree shape_step expr_step (Shape-F.Call f es)

pub expression_tree : (n : Node) (e : Expr) → stmt_tree (stmts.Expression n e) ≡ expression n (expr_tree e)
expression_tree n e = ap stmt_tree (sym (stmts.rolls-Expression n e)) ∙ fold-roll-Stmt StmtTree stmt_step (Stmt-F.Expression n e)

pub switch_tree : (n : Node) (e : Expr) (items : Vec Stmt Global) → stmt_tree (stmts.Switch n e items) ≡ switch n (expr_tree e) (stmts_tree items.items)
switch_tree n e items = ap stmt_tree (sym (stmts.rolls-Switch n e items)) ∙ fold-roll-Stmt StmtTree stmt_step (Stmt-F.Switch n e items)

pub while_loop_tree : (n : Node) (e : Expr) (s : Box Stmt Global) → stmt_tree (stmts.While n e s) ≡ while_loop n (expr_tree e) (stmt_tree s.value)
while_loop_tree n e s = ap stmt_tree (sym (stmts.rolls-While n e s)) ∙ fold-roll-Stmt StmtTree stmt_step (Stmt-F.While n e s)

pub do_loop_tree : (n : Node) (s : Box Stmt Global) (e : Expr) → stmt_tree (stmts.Do n s e) ≡ do_loop n (stmt_tree s.value) (expr_tree e)
do_loop_tree n s e = ap stmt_tree (sym (stmts.rolls-Do n s e)) ∙ fold-roll-Stmt StmtTree stmt_step (Stmt-F.Do n s e)

pub for_loop_tree : (n : Node) (start : Start) (e : Option Expr) (u : Option Expr) (s : Box Stmt Global) → stmt_tree (stmts.For n start e u s) ≡ for_loop n (start_tree start) (option_tree e) (option_tree u) (stmt_tree s.value)
for_loop_tree n start e u s = ap stmt_tree (sym (stmts.rolls-For n start e u s)) ∙ fold-roll-Stmt StmtTree stmt_step (Stmt-F.For n start e u s)

pub return_tree : (n : Node) (e : Option Expr) → stmt_tree (stmts.Return n e) ≡ return n (option_tree e)
return_tree n e = ap stmt_tree (sym (stmts.rolls-Return n e)) ∙ fold-roll-Stmt StmtTree stmt_step (Stmt-F.Return n e)

pub branch_tree : (n : Node) (e : Expr) (s : Box Stmt Global) (t : Option (Box Stmt Global)) → stmt_tree (stmts.If n e s t) ≡ branch n (expr_tree e) (stmt_tree s.value) (else_tree t)
branch_tree n e s None = ap stmt_tree (sym (stmts.rolls-If n e s None)) ∙ fold-roll-Stmt StmtTree stmt_step (Stmt-F.If n e s None)
branch_tree n e s (Some b) = ap stmt_tree (sym (stmts.rolls-If n e s (Some b))) ∙ fold-roll-Stmt StmtTree stmt_step (Stmt-F.If n e s (Some b))

pub list_of_tree : (l : InitialiserList) → initialiser_tree (initialisers.List l) ≡ list l.node (initialisers_tree l.items.items)
list_of_tree l = ap initialiser_tree (sym (initialisers.rolls-List l)) ∙ fold-roll-Initialiser InitialiserTree InitialiserTree initialiser_step list_step (Initialiser-F.List l) ∙ fold_out-InitialiserList InitialiserTree InitialiserTree initialiser_step list_step l
