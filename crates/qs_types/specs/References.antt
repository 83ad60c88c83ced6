-- Which functions a unit calls, and which of its texts are blocks of memory, in the order of the text.
use Rattle.std.specs.Prelude.{ℕ, List, [], ◌∷◌, ◌++◌, flat_map, if◌then◌else◌}
use Rattle.qs_syntax.specs.Trees.{ExprTree, expr, ShapeTree, Exprs, no_exprs, expr_and, UnitTree}
use Rattle.qs_syntax.specs.Trees as trees
use Rattle.qs_types.specs.Sites.{Site, unit_sites}

-- ---- calls, below `sizeof` too

abbrev mutual
  pub expr_calls : ExprTree → List (List ℕ)
  expr_calls (expr node shape) = shape_calls shape

  pub shape_calls : ShapeTree → List (List ℕ)
  shape_calls (trees.constant n u) = []
  shape_calls (trees.text bytes) = []
  shape_calls (trees.name x) = []
  shape_calls (trees.unary operator a) = expr_calls a
  shape_calls (trees.step operator a) = expr_calls a
  shape_calls (trees.cast n a) = expr_calls a
  shape_calls (trees.sizeof_type n) = []
  shape_calls (trees.sizeof_expr a) = expr_calls a
  shape_calls (trees.binary operator a b) = expr_calls a ++ expr_calls b
  shape_calls (trees.assign operator a b) = expr_calls a ++ expr_calls b
  shape_calls (trees.conditional d a b) = expr_calls d ++ (expr_calls a ++ expr_calls b)
  shape_calls (trees.comma a b) = expr_calls a ++ expr_calls b
  shape_calls (trees.subscript a b) = expr_calls a ++ expr_calls b
  shape_calls (trees.member access a x) = expr_calls a
  shape_calls (trees.call f es) = f ∷ exprs_calls es

  pub exprs_calls : Exprs → List (List ℕ)
  exprs_calls no_exprs = []
  exprs_calls (expr_and e es) = expr_calls e ++ exprs_calls es

-- the names that are called
abbrev pub unit_calls : UnitTree → List (List ℕ)
unit_calls unit = flat_map (λ s. expr_calls s.expression) (unit_sites unit)

-- ---- texts (6.4.5p6), below `sizeof` too

pub record TextBlock : Type 0 where
  pub node : ℕ
  -- without the last zero
  pub bytes : List ℕ

abbrev mutual
  pub expr_texts : ExprTree → List TextBlock
  expr_texts (expr node shape) = shape_texts node.id shape

  pub shape_texts : (node : ℕ) → ShapeTree → List TextBlock
  shape_texts node (trees.constant n u) = []
  shape_texts node (trees.text bytes) = record { node = node; bytes = bytes } ∷ []
  shape_texts node (trees.name x) = []
  shape_texts node (trees.unary operator a) = expr_texts a
  shape_texts node (trees.step operator a) = expr_texts a
  shape_texts node (trees.cast n a) = expr_texts a
  shape_texts node (trees.sizeof_type n) = []
  shape_texts node (trees.sizeof_expr a) = expr_texts a
  shape_texts node (trees.binary operator a b) = expr_texts a ++ expr_texts b
  shape_texts node (trees.assign operator a b) = expr_texts a ++ expr_texts b
  shape_texts node (trees.conditional d a b) = expr_texts d ++ (expr_texts a ++ expr_texts b)
  shape_texts node (trees.comma a b) = expr_texts a ++ expr_texts b
  shape_texts node (trees.subscript a b) = expr_texts a ++ expr_texts b
  shape_texts node (trees.member access a x) = expr_texts a
  shape_texts node (trees.call f es) = exprs_texts es

  pub exprs_texts : Exprs → List TextBlock
  exprs_texts no_exprs = []
  exprs_texts (expr_and e es) = expr_texts e ++ exprs_texts es

abbrev pub site_texts : Site → List TextBlock
site_texts s = if s.fills_array then [] else expr_texts s.expression

-- the texts that are blocks of memory: all but those that fill an array of file scope
abbrev pub literal_blocks : UnitTree → List TextBlock
literal_blocks unit = flat_map site_texts (unit_sites unit)
