-- Operations as far as scalar types go.
use Rattle.std.specs.Prelude.{◌≡◌, Option, Result, option_map, IfOk}
use Rattle.qs_memory.specs.declared.scalar.Scalar.{Scalar}
use Rattle.qs_memory.specs.declared.operation.BinaryOperation.{BinaryOperation}
use Rattle.qs_meaning.specs.Typed as trees
use Rattle.qs_meaning.specs.Conversions.{scalar_of}
use Rattle.qs_memory.specs.declared.scalar.Scalar.TheVariants as scalars
use Rattle.qs_types.specs.TypeOf.{type_tree}
use Rattle.qs_types.specs.Types.{TypeTree}
use Rattle.qs_types.specs.declared.types.CType.{CType}
use Rattle.qs_meaning.specs.Forms as forms
use Rattle.qs_meaning.specs.Operations as operations
use Rattle.qs_typed_forms.specs.Between.{between}
use Rattle.qs_typed_forms.specs.FormOf.{form_tree, typed_tree}
use Rattle.qs_typed_forms.specs.Results.{Gives}
use Rattle.qs_typed_forms.specs.declared.forms.Form.{Form}
use Rattle.qs_typed_forms.specs.declared.forms.Typed.{Typed}
use Rattle.qs_typed_trees.specs.TreeOf.{conversion_tree, expression_tree, lvalue_tree, order_tree}
use Rattle.qs_typed_trees.specs.declared.expressions.Expression.{Expression}
use Rattle.qs_typed_trees.specs.declared.expressions.Lvalue.{Lvalue}
use Rattle.qs_typed_operators.specs.declared.operations.Operated.{Operated}

-- an operation, with the scalar type of its result in place of its type
pub record OperatedTree : Type 0 where
  pub operation : BinaryOperation
  pub left : trees.Conversion
  pub right : trees.Conversion
  pub scalar : Scalar
  pub order : trees.Order

abbrev pub in_scalars : operations.Operated → OperatedTree
in_scalars o = record { operation = o.operation; left = o.left; right = o.right; scalar = scalar_of o.type; order = o.order }

abbrev pub operated_tree : Operated → OperatedTree
operated_tree o = record {
  operation = o.operation;
  left = conversion_tree o.left;
  right = conversion_tree o.right;
  scalar = o.scalar;
  order = order_tree o.order;
}

-- an operation on two values
abbrev pub operated_by : OperatedTree → (a b : forms.TypedExpr) → trees.Expr
operated_by o a b = trees.binary o.operation o.order o.left o.right (forms.value_in_use a) (forms.value_in_use b)

-- 6.5.16.2p3
abbrev pub updated_by : (t : TypeTree) → trees.Lvalue → OperatedTree → trees.Expr → forms.Form
updated_by t l o b = forms.assignment (trees.update (scalar_of t) l o.operation o.left o.right (between o.scalar (scalar_of t)) b)

-- 6.5.2.4p2
abbrev pub stepped_by : (t : TypeTree) → trees.Lvalue → OperatedTree → forms.Form
stepped_by t l o =
    forms.step (trees.update (scalar_of t) l o.operation o.left o.right (between o.scalar (scalar_of t)) (trees.constant scalars.Int 1))
    (trees.stepped_after (scalar_of t) l o.operation o.left (between o.scalar (scalar_of t)))

-- ---- the same of types in code

-- an operation on two values
abbrev pub operation_tree : Operated → (a b : Typed) → trees.Expr
operation_tree o a b = operated_by (operated_tree o) (typed_tree a) (typed_tree b)

-- what is done at two types
abbrev pub IsOperation : (TypeTree → TypeTree → operations.Operated) → (t u : CType) → Operated → Type 0
IsOperation operation t u o = operated_tree o ≡ in_scalars (operation (type_tree t) (type_tree u))

-- .. where anything is
abbrev pub GivesOperation : {E : Type 0} → (TypeTree → TypeTree → Option operations.Operated) → (t u : CType) → Result Operated E → Type 0
GivesOperation operation t u result = Gives operated_tree (option_map in_scalars (operation (type_tree t) (type_tree u))) result

-- 6.5.16.2p3: the lvalue of this type gets what the operation makes of its value and this one
abbrev pub Updates : {E : Type 0} → (t : CType) → Lvalue → Operated → Expression → Result Form E → Type 0
Updates t l o value result =
    IfOk result (λ f. form_tree f ≡ updated_by (type_tree t) (lvalue_tree l) (operated_tree o) (expression_tree value))

-- 6.5.2.4p2: .. and the number 1, and the form gives the value before
abbrev pub Steps : {E : Type 0} → (t : CType) → Lvalue → Operated → Result Form E → Type 0
Steps t l o result = IfOk result (λ f. form_tree f ≡ stepped_by (type_tree t) (lvalue_tree l) (operated_tree o))
