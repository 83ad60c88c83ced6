-- The typed tree of an expression (C11 6.5). What type an expression has is said by the typing rules; here it is said what stands in the
-- typed tree, and there is nothing only where nothing can be written.
use Rattle.std.specs.Prelude.{ℕ, ◌+◌, Bool, false, List, [], ◌∷◌, Option, Some, None, if◌then◌else◌}
use Rattle.qs_base.specs.Bytes.{same_bytes}
use Rattle.qs_syntax.specs.declared.nodes.Node.{Node}
use Rattle.qs_syntax_vocabulary.specs.declared.operators.UnaryOperator.{UnaryOperator}
use Rattle.qs_syntax_vocabulary.specs.declared.operators.UnaryOperator.TheVariants as unaries
use Rattle.qs_syntax_vocabulary.specs.declared.operators.StepOperator.{StepOperator}
use Rattle.qs_syntax_vocabulary.specs.declared.operators.StepOperator.TheVariants as steps
use Rattle.qs_syntax_vocabulary.specs.declared.operators.BinaryOperator.{BinaryOperator}
use Rattle.qs_syntax_vocabulary.specs.declared.operators.BinaryOperator.TheVariants as binaries
use Rattle.qs_syntax_vocabulary.specs.declared.operators.AssignmentOperator.{AssignmentOperator}
use Rattle.qs_syntax_vocabulary.specs.declared.operators.AssignmentOperator.TheVariants as assigns
use Rattle.qs_syntax_vocabulary.specs.declared.operators.Access.{Access}
use Rattle.qs_syntax_vocabulary.specs.declared.operators.Access.TheVariants as accesses
use Rattle.qs_syntax.specs.Trees.{ExprTree, expr, ShapeTree, Exprs, no_exprs, expr_and}
use Rattle.qs_syntax.specs.Trees as trees
use Rattle.qs_memory.specs.declared.scalar.Scalar.TheVariants as scalars
use Rattle.qs_memory.specs.declared.operation.Signedness.{Signedness}
use Rattle.qs_memory.specs.declared.operation.UnaryOperation.{UnaryOperation}
use Rattle.qs_memory.specs.declared.operation.UnaryOperation.TheVariants.{Plus, Minus, Complement, Not}
use Rattle.qs_memory.specs.Partial.{◌>>=◌}
use Rattle.qs_types.specs.declared.extent.Extent.{Extent}
use Rattle.qs_types.specs.Types.{TypeTree, int, struct, is_struct, referenced, MemberTree, Structs}
use Rattle.qs_types.specs.Layout.{extent_of, size_of, offset_of, struct_of}
use Rattle.qs_types.specs.Conversions.{promoted, common}
use Rattle.qs_types.specs.Contexts.{named_type}
use Rattle.qs_types.specs.Expressions.{type_of}
use Rattle.qs_meaning.specs.Typed.{Expr, constant, pointer_to, member, stepped_after, unary, cast, binary, logical_and, logical_or, conditional, Lvalue, object, Arguments, no_arguments, argument_and, set, update}
use Rattle.qs_meaning.specs.Conversions.{scalar_of, conversion}
use Rattle.qs_meaning.specs.Operations.{Operated, operation_of, signedness}
use Rattle.qs_meaning.specs.Forms.{Form, lvalue, result, call, assignment, step, struct_assignment, comma, TypedExpr, lvalue_of, address_of, type_in_use, value_in_use, effect_in_use}
use Rattle.qs_meaning.specs.Names.{Scope, text_object, name_lvalue, Designator, designated}

-- ---- primary expressions (6.5.1)

-- 6.4.4.1, 6.4.4.4
abbrev pub constant_form : ℕ → (is_unsigned : Bool) → Form
constant_form n is_unsigned = result (constant (if is_unsigned then scalars.Unsigned else scalars.Int) n)

-- 6.5.1p4: a text is an lvalue
abbrev pub text_form : Scope → Node → Form
text_form s node = lvalue (object (pointer_to (text_object s.statics node.id)))

-- 6.5.1p2
abbrev pub name_form : Scope → List ℕ → Option Form
name_form s x = name_lvalue s x >>= λ l. Some (lvalue l)

-- ---- postfix operators (6.5.2)

-- 6.5.2.1p2: a[b] is *(a + b)
abbrev pub object_at : Expr → Form
object_at p = lvalue (object p)

abbrev pub operated : Operated → (a b : TypedExpr) → Expr
operated o a b = binary o.operation o.order o.left o.right (value_in_use a) (value_in_use b)

abbrev pub operator_value : Structs → BinaryOperator → (a b : TypedExpr) → Option Expr
operator_value structs operator a b = operation_of structs operator (type_in_use a) (type_in_use b) >>= λ o. Some (operated o a b)

abbrev pub subscript_form : Structs → (a b : TypedExpr) → Option Form
subscript_form structs a b = operator_value structs binaries.Add a b >>= λ sum. Some (object_at sum)

-- 6.5.2.2p7: each argument is converted to the type of its parameter
abbrev pub arguments_of : List TypeTree → List TypedExpr → Option Arguments
arguments_of [] [] = Some no_arguments
arguments_of [] (a ∷ rest) = None
arguments_of (t ∷ ts) [] = None
arguments_of (t ∷ ts) (a ∷ rest) = arguments_of ts rest >>= λ later. Some (argument_and (conversion (type_in_use a) t) (value_in_use a) later)

abbrev pub call_form : Scope → List ℕ → List TypedExpr → Option Form
call_form s f given =
    designated s f >>= λ (d : Designator). arguments_of d.parameters given >>= λ converted. Some (call d.callee converted)

-- the place of a member among those of its struct
abbrev pub member_number : ℕ → List ℕ → List MemberTree → Option ℕ
member_number k x [] = None
member_number k x (m ∷ ms) = if same_bytes m.name x then Some k else member_number (k + 1) x ms

abbrev pub member_offset : Structs → TypeTree → List ℕ → Option ℕ
member_offset structs (struct k) x = struct_of structs k >>= λ ms. member_number 0 x ms >>= offset_of structs k
member_offset structs _ x = None

-- 6.5.2.3p3: e.x of an lvalue e
abbrev pub dot_form : Structs → TypedExpr → List ℕ → Option Form
dot_form structs a x =
    address_of a.form >>= λ base. member_offset structs a.type x >>= λ offset. Some (object_at (member offset base))

-- 6.5.2.3p4: p->x
abbrev pub arrow_form : Structs → TypedExpr → List ℕ → Option Form
arrow_form structs a x =
    member_offset structs (referenced (type_in_use a)) x >>= λ offset. Some (object_at (member offset (value_in_use a)))

abbrev pub member_form : Structs → Access → TypedExpr → List ℕ → Option Form
member_form structs accesses.Dot a x = dot_form structs a x
member_form structs accesses.Arrow a x = arrow_form structs a x

-- ---- assignment (6.5.16)

-- 6.5.16.1p2: the value is converted to the type of the lvalue
abbrev pub set_form : TypedExpr → TypedExpr → Option Form
set_form a b = lvalue_of a.form >>= λ l. Some (assignment (set (scalar_of a.type) l (conversion (type_in_use b) a.type) (value_in_use b)))

-- 6.5.16.1p2: a struct
abbrev pub struct_form : Structs → TypedExpr → TypedExpr → Option Form
struct_form structs a b =
    extent_of structs a.type >>= λ (e : Extent). address_of a.form >>= λ to. address_of b.form >>= λ from.
    Some (struct_assignment e.size e.alignment to from)

abbrev pub plain_form : Structs → TypedExpr → TypedExpr → Option Form
plain_form structs a b = if is_struct a.type then struct_form structs a b else set_form a b

-- 6.5.16.2p3: a op= b is a = a op b, but a is evaluated once
abbrev pub updated : (t : TypeTree) → Lvalue → Operated → Expr → Form
updated t l o b = assignment (update (scalar_of t) l o.operation o.left o.right (conversion o.type t) b)

abbrev pub compound_form : Structs → BinaryOperator → TypedExpr → TypedExpr → Option Form
compound_form structs operator a b =
    lvalue_of a.form >>= λ l. operation_of structs operator a.type (type_in_use b) >>= λ o. Some (updated a.type l o (value_in_use b))

abbrev pub assign_form : Structs → AssignmentOperator → TypedExpr → TypedExpr → Option Form
assign_form structs assigns.Plain a b = plain_form structs a b
assign_form structs assigns.Multiply a b = compound_form structs binaries.Multiply a b
assign_form structs assigns.Divide a b = compound_form structs binaries.Divide a b
assign_form structs assigns.Remainder a b = compound_form structs binaries.Remainder a b
assign_form structs assigns.Add a b = compound_form structs binaries.Add a b
assign_form structs assigns.Subtract a b = compound_form structs binaries.Subtract a b
assign_form structs assigns.ShiftLeft a b = compound_form structs binaries.ShiftLeft a b
assign_form structs assigns.ShiftRight a b = compound_form structs binaries.ShiftRight a b
assign_form structs assigns.BitAnd a b = compound_form structs binaries.BitAnd a b
assign_form structs assigns.BitXor a b = compound_form structs binaries.BitXor a b
assign_form structs assigns.BitOr a b = compound_form structs binaries.BitOr a b

-- ---- steps (6.5.2.4, 6.5.3.1)

abbrev pub one : TypedExpr
one = record { type = int; form = constant_form 1 false }

-- 6.5.2.4p2: what ++a writes, and the value before
abbrev pub after_form : (t : TypeTree) → Lvalue → Operated → Form
after_form t l o =
    step (update (scalar_of t) l o.operation o.left o.right (conversion o.type t) (value_in_use one))
    (stepped_after (scalar_of t) l o.operation o.left (conversion o.type t))

abbrev pub step_after_form : Structs → BinaryOperator → TypedExpr → Option Form
step_after_form structs operator a =
    lvalue_of a.form >>= λ l. operation_of structs operator a.type int >>= λ o. Some (after_form a.type l o)

-- 6.5.3.1p2: ++a is a += 1
abbrev pub step_form : Structs → StepOperator → TypedExpr → Option Form
step_form structs steps.IncrementBefore a = compound_form structs binaries.Add a one
step_form structs steps.DecrementBefore a = compound_form structs binaries.Subtract a one
step_form structs steps.IncrementAfter a = step_after_form structs binaries.Add a
step_form structs steps.DecrementAfter a = step_after_form structs binaries.Subtract a

-- ---- unary operators (6.5.3)

-- 6.5.3.2p3: the operand is an lvalue, and doesn't turn into the value that it has
abbrev pub address_form : TypedExpr → Option Form
address_form a = address_of a.form >>= λ p. Some (result p)

-- 6.5.3.2p4
abbrev pub indirect_form : TypedExpr → Form
indirect_form a = object_at (value_in_use a)

-- 6.5.3.3p2 to p4: the operand is promoted
abbrev pub arithmetic_form : (Signedness → UnaryOperation) → TypedExpr → Form
arithmetic_form operation a =
    let t = promoted (type_in_use a) in
    result (unary (operation (signedness t)) (conversion (type_in_use a) t) (value_in_use a))

-- 6.5.3.3p5: !a is 0 == a, so an integer is promoted; the result has type int
abbrev pub beside_zero : TypeTree → TypeTree
beside_zero t = common int t

abbrev pub negation_form : TypedExpr → Form
negation_form a = result (unary Not (conversion (type_in_use a) (beside_zero (type_in_use a))) (value_in_use a))

abbrev pub unary_form : UnaryOperator → TypedExpr → Option Form
unary_form unaries.Address a = address_form a
unary_form unaries.Indirect a = Some (indirect_form a)
unary_form unaries.Plus a = Some (arithmetic_form Plus a)
unary_form unaries.Minus a = Some (arithmetic_form Minus a)
unary_form unaries.Complement a = Some (arithmetic_form Complement a)
unary_form unaries.Not a = Some (negation_form a)

-- 6.5.3.4p2, p5: the operand isn't evaluated; the size has type unsigned
abbrev pub size_form : Structs → TypeTree → Option Form
size_form structs t = size_of structs t >>= λ size. Some (result (constant scalars.Unsigned size))

-- 6.5.4p5
abbrev pub cast_form : TypeTree → TypedExpr → Form
cast_form t a = result (cast (conversion (type_in_use a) t) (value_in_use a))

-- ---- operators between two operands (6.5.5 to 6.5.14)

abbrev pub operator_form : Structs → BinaryOperator → (a b : TypedExpr) → Option Form
operator_form structs operator a b = operator_value structs operator a b >>= λ e. Some (result e)

abbrev pub binary_form : Structs → BinaryOperator → (a b : TypedExpr) → Option Form
-- 6.5.13, 6.5.14
binary_form structs binaries.And a b = Some (result (logical_and (value_in_use a) (value_in_use b)))
binary_form structs binaries.Or a b = Some (result (logical_or (value_in_use a) (value_in_use b)))
binary_form structs binaries.Multiply a b = operator_form structs binaries.Multiply a b
binary_form structs binaries.Divide a b = operator_form structs binaries.Divide a b
binary_form structs binaries.Remainder a b = operator_form structs binaries.Remainder a b
binary_form structs binaries.Add a b = operator_form structs binaries.Add a b
binary_form structs binaries.Subtract a b = operator_form structs binaries.Subtract a b
binary_form structs binaries.ShiftLeft a b = operator_form structs binaries.ShiftLeft a b
binary_form structs binaries.ShiftRight a b = operator_form structs binaries.ShiftRight a b
binary_form structs binaries.Less a b = operator_form structs binaries.Less a b
binary_form structs binaries.Greater a b = operator_form structs binaries.Greater a b
binary_form structs binaries.LessEqual a b = operator_form structs binaries.LessEqual a b
binary_form structs binaries.GreaterEqual a b = operator_form structs binaries.GreaterEqual a b
binary_form structs binaries.Equal a b = operator_form structs binaries.Equal a b
binary_form structs binaries.NotEqual a b = operator_form structs binaries.NotEqual a b
binary_form structs binaries.BitAnd a b = operator_form structs binaries.BitAnd a b
binary_form structs binaries.BitXor a b = operator_form structs binaries.BitXor a b
binary_form structs binaries.BitOr a b = operator_form structs binaries.BitOr a b

-- 6.5.15p5, p6: both branches are converted to one type
abbrev pub conditional_form : (c a b : TypedExpr) → Form
conditional_form c a b =
    let t = common (type_in_use a) (type_in_use b) in
    result (conditional (scalar_of t) (value_in_use c) (conversion (type_in_use a) t) (conversion (type_in_use b) t) (value_in_use a) (value_in_use b))

-- 6.5.17p2: the left operand is used for its effect; the result is no lvalue
abbrev pub comma_form : (a b : TypedExpr) → Form
comma_form a b = comma (effect_in_use a) b.type b.form

-- ---- expressions

abbrev mutual
  -- an expression that has a type
  pub typed : Scope → ExprTree → Option TypedExpr
  typed s (expr node shape) =
      type_of s.context (expr node shape) >>= λ t. form_of s node shape >>= λ form. Some (record { type = t; form = form })

  pub form_of : Scope → Node → ShapeTree → Option Form
  form_of s node (trees.constant n is_unsigned) = Some (constant_form n is_unsigned)
  form_of s node (trees.text bytes) = Some (text_form s node)
  form_of s node (trees.name x) = name_form s x
  form_of s node (trees.subscript a b) = typed s a >>= λ a. typed s b >>= subscript_form s.context.structs a
  form_of s node (trees.call f es) = all_typed s es >>= call_form s f
  form_of s node (trees.member access a x) = typed s a >>= λ a. member_form s.context.structs access a x
  form_of s node (trees.step operator a) = typed s a >>= step_form s.context.structs operator
  form_of s node (trees.unary operator a) = typed s a >>= unary_form operator
  form_of s node (trees.sizeof_expr a) = type_of s.context a >>= size_form s.context.structs
  form_of s node (trees.sizeof_type name) = named_type s.context name >>= size_form s.context.structs
  form_of s node (trees.cast name a) = named_type s.context name >>= λ t. typed s a >>= λ a. Some (cast_form t a)
  form_of s node (trees.binary operator a b) = typed s a >>= λ a. typed s b >>= binary_form s.context.structs operator a
  form_of s node (trees.conditional c a b) =
      typed s c >>= λ c. typed s a >>= λ a. typed s b >>= λ b. Some (conditional_form c a b)
  form_of s node (trees.assign operator a b) = typed s a >>= λ a. typed s b >>= assign_form s.context.structs operator a
  form_of s node (trees.comma a b) = typed s a >>= λ a. typed s b >>= λ b. Some (comma_form a b)

  pub all_typed : Scope → Exprs → Option (List TypedExpr)
  all_typed s no_exprs = Some []
  all_typed s (expr_and e es) = typed s e >>= λ a. all_typed s es >>= λ rest. Some (a ∷ rest)
