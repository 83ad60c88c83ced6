-- The most arguments of one call in a tree of the source, those of calls below `sizeof` among them. The lengths of arrays and the
-- labels of a switch are constants, and a constant of this language has no call, not even below `sizeof`.
use Rattle.std.specs.Prelude.{ℕ, ◌+◌, max}
use Rattle.qs_syntax.specs.Trees.{ExprTree, expr, ShapeTree, constant, text, name, unary, step, cast, sizeof_type, sizeof_expr, binary, assign, conditional, comma, subscript, member, call, Exprs, no_exprs, expr_and, InitialiserTree, value, list, Initialisers, no_initialisers, initialiser_and, VariableTree, DeclarationTree, StartTree, no_start, start_expression, start_declaration, StmtTree, empty, expression, declaration, block, switch, case_label, default_label, branch, while_loop, do_loop, for_loop, break, continue, return, Stmts, no_stmts, stmt_and, Else, no_else, else_by}
use Rattle.qs_elaborate_limits.specs.Measures.{highest, option_highest}

-- ---- expressions

abbrev pub expr_number : Exprs → ℕ
expr_number no_exprs = 0
expr_number (expr_and e es) = 1 + expr_number es

abbrev mutual
  pub expr_arguments : ExprTree → ℕ
  expr_arguments (expr node s) = shape_arguments s

  pub shape_arguments : ShapeTree → ℕ
  shape_arguments (constant n unsigned) = 0
  shape_arguments (text bytes) = 0
  shape_arguments (name x) = 0
  shape_arguments (unary operator a) = expr_arguments a
  shape_arguments (step operator a) = expr_arguments a
  shape_arguments (cast type a) = expr_arguments a
  shape_arguments (sizeof_type type) = 0
  shape_arguments (sizeof_expr a) = expr_arguments a
  shape_arguments (binary operator a b) = max (expr_arguments a) (expr_arguments b)
  shape_arguments (assign operator a b) = max (expr_arguments a) (expr_arguments b)
  shape_arguments (conditional a b c) = max (expr_arguments a) (max (expr_arguments b) (expr_arguments c))
  shape_arguments (comma a b) = max (expr_arguments a) (expr_arguments b)
  shape_arguments (subscript a b) = max (expr_arguments a) (expr_arguments b)
  shape_arguments (member access a x) = expr_arguments a
  shape_arguments (call f es) = max (expr_number es) (exprs_arguments es)

  pub exprs_arguments : Exprs → ℕ
  exprs_arguments no_exprs = 0
  exprs_arguments (expr_and e es) = max (expr_arguments e) (exprs_arguments es)

-- ---- declarations

abbrev mutual
  pub initialiser_arguments : InitialiserTree → ℕ
  initialiser_arguments (value e) = expr_arguments e
  initialiser_arguments (list node is) = initialisers_arguments is

  pub initialisers_arguments : Initialisers → ℕ
  initialisers_arguments no_initialisers = 0
  initialisers_arguments (initialiser_and i is) = max (initialiser_arguments i) (initialisers_arguments is)

abbrev pub variable_arguments : VariableTree → ℕ
variable_arguments v = option_highest initialiser_arguments v.initialiser

abbrev pub declaration_arguments : DeclarationTree → ℕ
declaration_arguments d = highest variable_arguments d.variables

-- ---- statements

abbrev pub start_arguments : StartTree → ℕ
start_arguments no_start = 0
start_arguments (start_expression e) = expr_arguments e
start_arguments (start_declaration d) = declaration_arguments d

abbrev mutual
  pub stmt_arguments : StmtTree → ℕ
  stmt_arguments (empty node) = 0
  stmt_arguments (expression node e) = expr_arguments e
  stmt_arguments (declaration d) = declaration_arguments d
  stmt_arguments (block ss) = stmts_arguments ss
  stmt_arguments (switch node e ss) = max (expr_arguments e) (stmts_arguments ss)
  stmt_arguments (case_label node e) = 0
  stmt_arguments (default_label node) = 0
  stmt_arguments (branch node e s r) = max (expr_arguments e) (max (stmt_arguments s) (else_arguments r))
  stmt_arguments (while_loop node e s) = max (expr_arguments e) (stmt_arguments s)
  stmt_arguments (do_loop node s e) = max (stmt_arguments s) (expr_arguments e)
  stmt_arguments (for_loop node a e u s) =
      max (start_arguments a) (max (option_highest expr_arguments e) (max (option_highest expr_arguments u) (stmt_arguments s)))
  stmt_arguments (break node) = 0
  stmt_arguments (continue node) = 0
  stmt_arguments (return node e) = option_highest expr_arguments e

  pub stmts_arguments : Stmts → ℕ
  stmts_arguments no_stmts = 0
  stmts_arguments (stmt_and s ss) = max (stmt_arguments s) (stmts_arguments ss)

  pub else_arguments : Else → ℕ
  else_arguments no_else = 0
  else_arguments (else_by s) = stmt_arguments s
