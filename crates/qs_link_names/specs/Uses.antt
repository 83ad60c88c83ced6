-- The names that an expression and an initialiser use as those of variables (C11 6.5.1), in the order of the text. A called name is none.
use Rattle.std.specs.Prelude.{ℕ, List, [], ◌∷◌, ◌++◌, Option, Some, None}
use Rattle.qs_syntax.specs.Trees.{ExprTree, expr, ShapeTree, constant, text, name, unary, step, cast, sizeof_type, sizeof_expr, binary, assign, conditional, comma, subscript, member, call, Exprs, no_exprs, expr_and, InitialiserTree, value, list, Initialisers, no_initialisers, initialiser_and}

abbrev mutual
  pub uses : ExprTree → List (List ℕ)
  uses (expr node s) = shape_uses s

  pub shape_uses : ShapeTree → List (List ℕ)
  shape_uses (constant n u) = []
  shape_uses (text bytes) = []
  shape_uses (name x) = x ∷ []
  shape_uses (unary operator a) = uses a
  shape_uses (step operator a) = uses a
  shape_uses (cast type a) = uses a
  shape_uses (sizeof_type type) = []
  shape_uses (sizeof_expr a) = uses a
  shape_uses (binary operator a b) = uses a ++ uses b
  shape_uses (assign operator a b) = uses a ++ uses b
  shape_uses (conditional a b c) = uses a ++ (uses b ++ uses c)
  shape_uses (comma a b) = uses a ++ uses b
  shape_uses (subscript a b) = uses a ++ uses b
  shape_uses (member access a x) = uses a
  shape_uses (call f es) = all_uses es

  pub all_uses : Exprs → List (List ℕ)
  all_uses no_exprs = []
  all_uses (expr_and e es) = uses e ++ all_uses es

abbrev mutual
  pub initialiser_uses : InitialiserTree → List (List ℕ)
  initialiser_uses (value e) = uses e
  initialiser_uses (list node is) = initialisers_uses is

  pub initialisers_uses : Initialisers → List (List ℕ)
  initialisers_uses no_initialisers = []
  initialisers_uses (initialiser_and i is) = initialiser_uses i ++ initialisers_uses is

abbrev pub setting_uses : Option InitialiserTree → List (List ℕ)
setting_uses None = []
setting_uses (Some i) = initialiser_uses i
