-- The pure pieces that pieces in code stand for.
use Rattle.std.specs.Prelude.{ℕ, List, Option, map, Result, Vec}
use Rattle.std.specs.declared.alloc.Global.{Global}
use Rattle.qs_syntax.specs.TreeOf.{expr_tree}
use Rattle.qs_syntax.specs.Trees.{Initialisers}
use Rattle.qs_syntax.specs.declared.expressions.Expr.{Expr}
use Rattle.qs_types.specs.EnvOf.{env_tree}
use Rattle.qs_types.specs.TypeOf.{type_tree}
use Rattle.qs_types.specs.Types.{Structs, TypeTree}
use Rattle.qs_types.specs.declared.env.Env.{Env}
use Rattle.qs_types.specs.declared.types.CType.{CType}
use Rattle.qs_meaning.specs.Initialisers as initialisers
use Rattle.qs_typed_forms.specs.Results.{Gives}
use Rattle.qs_typed_nodes.specs.declared.piece.Piece.{Piece}

abbrev pub piece_tree : Piece → initialisers.Piece
piece_tree p = record { offset = p.offset; type = type_tree p.of.now; expression = expr_tree p.expression.now }

abbrev pub pieces_tree : Vec Piece Global → List initialisers.Piece
pieces_tree ps = map piece_tree ps.items

-- the part of this type that begins here, with an expression
abbrev pub piece_of : (offset : ℕ) → CType → Expr → initialisers.Piece
piece_of offset t e = record { offset = offset; type = type_tree t; expression = expr_tree e }

-- of a list, from the first part on
abbrev pub list_pieces : Structs → TypeTree → (offset : ℕ) → Initialisers → Option (List initialisers.Piece)
list_pieces structs t offset is = initialisers.pieces_from structs t offset 0 is

-- what initialises the part of this type that begins here
abbrev pub Divides :
    {X E : Type 0} → (Structs → TypeTree → (offset : ℕ) → X → Option (List initialisers.Piece)) → Env → CType → (offset : ℕ) → X
    → Result (Vec Piece Global) E → Type 0
Divides definition env t offset x result = Gives pieces_tree (definition (env_tree env) (type_tree t) offset x) result
