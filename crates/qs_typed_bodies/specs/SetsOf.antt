-- What the initialisers of locals in code do.
use Rattle.std.specs.Prelude.{ℕ, List, Option, map, option_map, Result}
use Rattle.qs_syntax.specs.TreeOf.{expr_tree, initialiser_tree}
use Rattle.qs_syntax.specs.Trees.{InitialiserTree}
use Rattle.qs_syntax.specs.declared.declarations.Initialiser.{Initialiser}
use Rattle.qs_syntax.specs.declared.expressions.Expr.{Expr}
use Rattle.qs_types.specs.TypeOf.{type_tree}
use Rattle.qs_types.specs.declared.types.CType.{CType}
use Rattle.qs_meaning.specs.Forms.{TypedExpr, lvalue}
use Rattle.qs_meaning.specs.Typed as trees
use Rattle.qs_typed_forms.specs.FormOf.{typed_tree}
use Rattle.qs_typed_nodes.specs.Known as pure
use Rattle.qs_typed_nodes.specs.KnownOf.{known_tree}
use Rattle.qs_typed_nodes.specs.KnownStatements.{assigned_set_known, filled_known, initialised_known, piece_set_known, pieces_set_known, text_set_known}
use Rattle.qs_typed_nodes.specs.PieceOf.{piece_tree}
use Rattle.qs_typed_forms.specs.Results.{Gives}
use Rattle.qs_typed_trees.specs.TreeOf.{effect_tree, expression_tree, lvalue_tree, object_tree}
use Rattle.qs_typed_trees.specs.declared.expressions.Effect.{Effect}
use Rattle.qs_typed_trees.specs.declared.expressions.Expression.{Expression}
use Rattle.qs_typed_trees.specs.declared.expressions.Lvalue.{Lvalue}
use Rattle.qs_typed_trees.specs.declared.expressions.Object.{Object}
use Rattle.qs_typed_forms.specs.declared.forms.Typed.{Typed}
use Rattle.qs_typed_nodes.specs.declared.known.Known.{Known}
use Rattle.qs_typed_nodes.specs.declared.piece.Piece.{Piece}

abbrev pub object_address : Object → trees.Expr
object_address base = trees.pointer_to (object_tree base)

-- the array at this address from a text
abbrev pub SetsText : {E : Type 0} → Known → CType → (to : Expression) → Expr → Result Effect E → Type 0
SetsText k t to e result = Gives effect_tree (text_set_known (known_tree k) (type_tree t) (expression_tree to) (expr_tree e)) result

-- a part by an assignment
abbrev pub SetsPart : {E : Type 0} → Known → Typed → Expr → Result Effect E → Type 0
SetsPart k part e result = Gives effect_tree (assigned_set_known (known_tree k) (typed_tree part) (expr_tree e)) result

-- the part of the object that a piece says
abbrev pub SetsPiece : {E : Type 0} → Known → (base : Object) → Piece → Result Effect E → Type 0
SetsPiece k base p result = Gives effect_tree (piece_set_known (known_tree k) (object_address base) (piece_tree p)) result

abbrev pub SetsPieces : {T E : Type 0} → (view : T → trees.Effect) → Known → (base : Object) → List Piece → Result T E → Type 0
SetsPieces view k base ps result = Gives view (pieces_set_known (known_tree k) (object_address base) (map piece_tree ps)) result

-- the object as a whole
abbrev pub Fills : {E : Type 0} → Known → CType → (base : Object) → Initialiser → Result Effect E → Type 0
Fills k t base i result = Gives effect_tree (filled_known (known_tree k) (type_tree t) (object_address base) (initialiser_tree i)) result

-- a local of this type
abbrev pub SetsLocal : {E : Type 0} → (pure.Known → TypedExpr → InitialiserTree → Option trees.Effect) → Known → CType → Lvalue → Initialiser → Result Effect E → Type 0
SetsLocal definition k t l i result =
    Gives effect_tree (definition (known_tree k) (record { type = type_tree t; form = lvalue (lvalue_tree l) }) (initialiser_tree i)) result

-- the local at this node, if anything initialises it
abbrev pub Initialises : {E : Type 0} → Known → (node : ℕ) → CType → Option Initialiser → Result Effect E → Type 0
Initialises k node t i result = Gives effect_tree (initialised_known (known_tree k) node (type_tree t) (option_map initialiser_tree i)) result
