-- Nodes of expressions that are read, not yet numbered, each with its first token.
use Rattle.std.specs.Prelude.{◌≡◌, ℕ, Box}
use Rattle.std.specs.declared.alloc.Global.{Global}
use Rattle.qs_syntax.specs.declared.expressions.Expr.{Expr}
use Rattle.qs_syntax.specs.Trees.{unnumbered, expr, ShapeTree, conditional}
use Rattle.qs_syntax.specs.TreeOf.{expr_tree}
use Rattle.qs_parser_expressions.specs.View.{boxed_expr}

-- an expression with this first token and this shape
abbrev pub IsExpr : Expr → ℕ → ShapeTree → Type 0
IsExpr e token shape = expr_tree e ≡ expr (unnumbered token) shape

abbrev pub conditional_of : Box Expr Global → Box Expr Global → Box Expr Global → ShapeTree
conditional_of condition then otherwise = conditional (boxed_expr condition) (boxed_expr then) (boxed_expr otherwise)
