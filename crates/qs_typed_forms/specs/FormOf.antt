-- The pure forms that forms in code stand for.
use Rattle.std.specs.Prelude.{Option, Result}
use Rattle.qs_memory.specs.declared.scalar.Scalar.{Scalar}
use Rattle.qs_memory.specs.declared.scalar.Scalar.TheVariants as scalars
use Rattle.qs_memory.specs.declared.operation.BinaryOperation.{BinaryOperation}
use Rattle.qs_types.specs.TypeOf.{type_tree}
use Rattle.qs_meaning.specs.Typed as trees
use Rattle.qs_meaning.specs.Expressions.{conditional_form}
use Rattle.qs_meaning.specs.Forms as forms
use Rattle.qs_typed_forms.specs.Results.{Gives, Makes}
use Rattle.qs_typed_trees.specs.TreeOf.{conversion_tree, expression_tree, lvalue_tree, assignment_tree, effect_tree, arguments_tree}
use Rattle.qs_typed_trees.specs.declared.expressions.Expression.{Expression}
use Rattle.qs_typed_forms.specs.declared.forms.Form.{Form, Form-F, fold-Form}
use Rattle.qs_typed_forms.specs.declared.forms.Step.{Step}
use Rattle.qs_typed_forms.specs.declared.forms.Typed.{Typed}

-- a step behind its operand
pub record StepTree : Type 0 where
  pub scalar : Scalar
  pub lvalue : trees.Lvalue
  pub operation : BinaryOperation
  pub left : trees.Conversion
  pub right : trees.Conversion
  pub back : trees.Conversion

abbrev pub step_tree : Step → StepTree
step_tree s = record {
  scalar = s.scalar;
  lvalue = lvalue_tree s.lvalue;
  operation = s.operation;
  left = conversion_tree s.before_left;
  right = conversion_tree s.before_right;
  back = conversion_tree s.back;
}

-- 6.5.2.4p2: what a step writes, and the value before
abbrev pub written : StepTree → trees.Assignment
written s = trees.update s.scalar s.lvalue s.operation s.left s.right s.back (trees.constant scalars.Int 1)

abbrev pub value_before : StepTree → trees.Expr
value_before s = trees.stepped_after s.scalar s.lvalue s.operation s.left s.back

abbrev pub step_form : StepTree → forms.Form
step_form s = forms.step (written s) (value_before s)

abbrev pub form_step : Form-F forms.Form → forms.Form
form_step (Form-F.Lvalue l) = forms.lvalue (lvalue_tree l)
form_step (Form-F.Value e) = forms.result (expression_tree e)
form_step (Form-F.Call f given) = forms.call f (arguments_tree given.items)
form_step (Form-F.Assignment a) = forms.assignment (assignment_tree a.value)
form_step (Form-F.Step s) = step_form (step_tree s.value)
form_step (Form-F.StructAssignment size alignment to from) = forms.struct_assignment size alignment (expression_tree to.value) (expression_tree from.value)
form_step (Form-F.Comma a t b) = forms.comma (effect_tree a.value) (type_tree t) b.value

abbrev pub form_tree : Form → forms.Form
form_tree = fold-Form forms.Form form_step

abbrev pub typed_tree : Typed → forms.TypedExpr
typed_tree a = record { type = type_tree a.of.now; form = form_tree a.form }

-- ---- answers

-- the form is the one that is due
abbrev pub IsForm : {E : Type 0} → Option forms.Form → Result Form E → Type 0
IsForm due result = Gives form_tree due result

-- .. that two operands have together
abbrev pub Combines : {E : Type 0} → (forms.TypedExpr → forms.TypedExpr → Option forms.Form) → (a b : Typed) → Result Form E → Type 0
Combines form a b result = IsForm (form (typed_tree a) (typed_tree b)) result

-- the value is the one that two operands have together
abbrev pub Computes : {E : Type 0} → (forms.TypedExpr → forms.TypedExpr → Option trees.Expr) → (a b : Typed) → Result Expression E → Type 0
Computes value a b result = Gives expression_tree (value (typed_tree a) (typed_tree b)) result

-- 6.5.15: one value or the other
abbrev pub Chooses : {E : Type 0} → (c a b : Typed) → Result Form E → Type 0
Chooses c a b result = Makes form_tree (conditional_form (typed_tree c) (typed_tree a) (typed_tree b)) result
