-- How high the expressions are that a tree of the source evaluates, and the statements that choose or repeat: such a node is 1 higher
-- than its highest part. Other statements and lists are as high as the highest thing in them.
use Rattle.std.specs.Prelude.{ℕ, ◌+◌, max}
use Rattle.qs_elaborate_limits.specs.Measures.{highest, option_highest}
use Rattle.qs_syntax.specs.Trees.{ExprTree, expr, ShapeTree, constant, text, name, unary, step, cast, sizeof_type, sizeof_expr, binary, assign, conditional, comma, subscript, member, call, Exprs, no_exprs, expr_and, InitialiserTree, value, list, Initialisers, no_initialisers, initialiser_and, VariableTree, DeclarationTree, StartTree, no_start, start_expression, start_declaration, StmtTree, empty, expression, declaration, block, switch, case_label, default_label, branch, while_loop, do_loop, for_loop, break, continue, return, Stmts, no_stmts, stmt_and, Else, no_else, else_by, DeclTree, structure, forward, function, variables, UnitTree, typedef}

-- ---- expressions

abbrev mutual
  pub expr_height : ExprTree → ℕ
  expr_height (expr node s) = 1 + shape_height s

  pub shape_height : ShapeTree → ℕ
  shape_height (constant n unsigned) = 0
  shape_height (text bytes) = 0
  shape_height (name x) = 0
  shape_height (unary operator a) = expr_height a
  shape_height (step operator a) = expr_height a
  shape_height (cast type a) = expr_height a
  shape_height (sizeof_type type) = 0
  shape_height (sizeof_expr a) = expr_height a
  shape_height (binary operator a b) = max (expr_height a) (expr_height b)
  shape_height (assign operator a b) = max (expr_height a) (expr_height b)
  shape_height (conditional a b c) = max (expr_height a) (max (expr_height b) (expr_height c))
  shape_height (comma a b) = max (expr_height a) (expr_height b)
  shape_height (subscript a b) = max (expr_height a) (expr_height b)
  shape_height (member access a x) = expr_height a
  shape_height (call f es) = exprs_height es

  pub exprs_height : Exprs → ℕ
  exprs_height no_exprs = 0
  exprs_height (expr_and e es) = max (expr_height e) (exprs_height es)

-- ---- declarations: the lengths of arrays are no part of a run

abbrev mutual
  pub initialiser_height : InitialiserTree → ℕ
  initialiser_height (value e) = expr_height e
  initialiser_height (list node is) = initialisers_height is

  pub initialisers_height : Initialisers → ℕ
  initialisers_height no_initialisers = 0
  initialisers_height (initialiser_and i is) = max (initialiser_height i) (initialisers_height is)

abbrev pub variable_height : VariableTree → ℕ
variable_height v = option_highest initialiser_height v.initialiser

abbrev pub declaration_height : DeclarationTree → ℕ
declaration_height d = highest variable_height d.variables

-- ---- statements

abbrev pub start_height : StartTree → ℕ
start_height no_start = 0
start_height (start_expression e) = expr_height e
start_height (start_declaration d) = declaration_height d

abbrev mutual
  pub stmt_height : StmtTree → ℕ
  stmt_height (empty node) = 0
  stmt_height (expression node e) = expr_height e
  stmt_height (declaration d) = declaration_height d
  stmt_height (block ss) = stmts_height ss
  stmt_height (switch node e ss) = 1 + max (expr_height e) (stmts_height ss)
  stmt_height (case_label node e) = 0
  stmt_height (default_label node) = 0
  stmt_height (branch node e s r) = 1 + max (expr_height e) (max (stmt_height s) (else_height r))
  stmt_height (while_loop node e s) = 1 + max (expr_height e) (stmt_height s)
  stmt_height (do_loop node s e) = 1 + max (stmt_height s) (expr_height e)
  stmt_height (for_loop node a e u s) =
      1 + max (start_height a) (max (option_highest expr_height e) (max (option_highest expr_height u) (stmt_height s)))
  stmt_height (break node) = 0
  stmt_height (continue node) = 0
  stmt_height (return node e) = option_highest expr_height e

  pub stmts_height : Stmts → ℕ
  stmts_height no_stmts = 0
  stmts_height (stmt_and s ss) = max (stmt_height s) (stmts_height ss)

  pub else_height : Else → ℕ
  else_height no_else = 0
  else_height (else_by s) = stmt_height s

-- ---- units: what initialises a variable of file scope is no part of a run

abbrev pub decl_height : DeclTree → ℕ
decl_height (structure s) = 0
decl_height (forward f) = 0
decl_height (typedef f) = 0
decl_height (function f) = option_highest stmts_height f.body
decl_height (variables d) = 0

abbrev pub unit_height : UnitTree → ℕ
unit_height ds = highest decl_height ds
