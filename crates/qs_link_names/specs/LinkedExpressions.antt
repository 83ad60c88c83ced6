-- Expressions of a file with its names as they are called in the program (C11 6.5.1, 6.5.2.2): those of variables and of called functions.
-- Members, tags and type names have no linkage (6.2.2p6).
use Rattle.std.specs.Prelude.{List, map, Option, Some, None}
use Rattle.qs_syntax.specs.Trees.{ExprTree, expr, ShapeTree, constant, text, name, unary, step, cast, sizeof_type, sizeof_expr, binary, assign, conditional, comma, subscript, member, call, Exprs, no_exprs, expr_and}
use Rattle.qs_link_names.specs.Linkage.{Internal, linked_name}

abbrev mutual
  pub linked_expr : Internal → ExprTree → ExprTree
  linked_expr own (expr node s) = expr node (linked_shape own s)

  pub linked_shape : Internal → ShapeTree → ShapeTree
  linked_shape own (constant n u) = constant n u
  linked_shape own (text bytes) = text bytes
  linked_shape own (name x) = name (linked_name own x)
  linked_shape own (unary operator a) = unary operator (linked_expr own a)
  linked_shape own (step operator a) = step operator (linked_expr own a)
  linked_shape own (cast type a) = cast type (linked_expr own a)
  linked_shape own (sizeof_type type) = sizeof_type type
  linked_shape own (sizeof_expr a) = sizeof_expr (linked_expr own a)
  linked_shape own (binary operator a b) = binary operator (linked_expr own a) (linked_expr own b)
  linked_shape own (assign operator a b) = assign operator (linked_expr own a) (linked_expr own b)
  linked_shape own (conditional a b c) = conditional (linked_expr own a) (linked_expr own b) (linked_expr own c)
  linked_shape own (comma a b) = comma (linked_expr own a) (linked_expr own b)
  linked_shape own (subscript a b) = subscript (linked_expr own a) (linked_expr own b)
  linked_shape own (member access a x) = member access (linked_expr own a) x
  linked_shape own (call f es) = call (linked_name own f) (linked_exprs own es)

  pub linked_exprs : Internal → Exprs → Exprs
  linked_exprs own no_exprs = no_exprs
  linked_exprs own (expr_and e es) = expr_and (linked_expr own e) (linked_exprs own es)

abbrev pub linked_option : Internal → Option ExprTree → Option ExprTree
linked_option own None = None
linked_option own (Some e) = Some (linked_expr own e)

abbrev pub linked_list : Internal → List ExprTree → List ExprTree
linked_list own es = map (linked_expr own) es
