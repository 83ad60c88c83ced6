-- What is known in a unit by the numbers of its nodes, and the typed tree of an expression from that: as the definition has it, but that
-- types and what names stand for are looked up by the numbers of nodes, not in scopes.
use Rattle.std.specs.Prelude.{ℕ, ◌==◌, List, [], ◌∷◌, Option, Some, None, if◌then◌else◌}
use Rattle.std.specs.List.{slice_get}
use Rattle.qs_syntax.specs.Trees.{ExprTree, expr, ShapeTree, Exprs, no_exprs, expr_and}
use Rattle.qs_syntax.specs.Trees as trees
use Rattle.qs_memory.specs.Partial.{◌>>=◌}
use Rattle.qs_memory.specs.declared.scalar.Scalar.{Scalar}
use Rattle.qs_memory.specs.declared.scalar.Scalar.TheVariants as scalars
use Rattle.qs_calls.specs.declared.callee.Callee.{Callee}
use Rattle.qs_calls.specs.declared.callee.Callee.TheVariants as callees
use Rattle.qs_types.specs.Types.{TypeTree, Structs}
use Rattle.qs_types.specs.Contexts.{TypeNames, base_in}
use Rattle.qs_types.specs.KnownTypes.{type_named}
use Rattle.qs_syntax.specs.declared.types.Base.{Base}
use Rattle.qs_syntax.specs.declared.types.TypeName.{TypeName}
use Rattle.qs_types.specs.declared.referent.Referent.{Referent}
use Rattle.qs_types.specs.declared.referent.Referent.TheVariants as referents
use Rattle.qs_meaning.specs.Typed.{constant, pointer_to, Arguments, no_arguments, argument_and, Lvalue, object}
use Rattle.qs_meaning.specs.Conversions.{scalar_of}
use Rattle.qs_meaning.specs.Names.{Locals, Statics, local_lvalue, file_variable_object, text_object, function_number}
use Rattle.qs_meaning.specs.Forms.{Form, lvalue, result, call, TypedExpr, type_in_use, value_in_use}
use Rattle.qs_meaning.specs.Expressions.{constant_form, subscript_form, member_form, step_form, unary_form, size_form, cast_form, binary_form, conditional_form, assign_form, comma_form}
use Rattle.qs_typed_trees.specs.TreeOf.{ArgumentTree}
use Rattle.qs_typed_forms.specs.Between.{between}

-- a header, by the number of its node, and the scalar types of its parameters
pub record Header : Type 0 where
  pub node : ℕ
  pub parameters : List Scalar

-- by the numbers of the nodes the types of expressions and those that variables and parameters are declared with, and what names stand for;
-- the type that the function's result is converted to; the structs and the names of types; the headers of functions; the locals of the function; what has a block from
-- the beginning; the names of the functions with a body
pub record Known : Type 0 where
  pub types : List (Option TypeTree)
  pub referents : List (Option Referent)
  pub result : Scalar
  pub structs : Structs
  pub type_names : TypeNames
  pub headers : List Header
  pub locals : Locals
  pub statics : Statics
  pub functions : List (List ℕ)

abbrev pub at_number : {A : Type 0} → List (Option A) → ℕ → Option A
at_number xs n = slice_get xs n >>= λ x. x

-- ---- names

abbrev pub referent_lvalue : Known → Referent → Option Lvalue
referent_lvalue k (referents.Local node) = Some (local_lvalue k.locals node)
referent_lvalue k (referents.File node) = Some (object (pointer_to (file_variable_object k.statics node)))
referent_lvalue k (referents.Function node) = None
referent_lvalue k referents.PutChar = None
referent_lvalue k referents.GetChar = None

-- 6.5.1p2
abbrev pub name_known : Known → (node : ℕ) → Option Form
name_known k node = at_number k.referents node >>= referent_lvalue k >>= λ l. Some (lvalue l)

-- 6.5.1p4
abbrev pub text_known : Known → (node : ℕ) → Form
text_known k node = lvalue (object (pointer_to (text_object k.statics node)))

-- ---- types by name

abbrev pub base_known : Known → Base → Option TypeTree
base_known k base = base_in k.type_names base

abbrev pub named_known : Known → TypeName → Option TypeTree
named_known k name = type_named k.type_names name

abbrev pub named_size_known : Known → TypeName → Option Form
named_size_known k name = named_known k name >>= size_form k.structs

abbrev pub sized : ℕ → Form
sized size = result (constant scalars.Unsigned size)

-- ---- calls

pub record Designator : Type 0 where
  pub callee : Callee
  pub parameters : List Scalar

abbrev pub parameters_of : (node : ℕ) → List Header → Option (List Scalar)
parameters_of node [] = None
parameters_of node (h ∷ hs) = if h.node == node then Some h.parameters else parameters_of node hs

abbrev pub designated_by : Known → (name : List ℕ) → Referent → Option Designator
designated_by k f (referents.Local node) = None
designated_by k f (referents.File node) = None
designated_by k f (referents.Function node) =
    parameters_of node k.headers >>= λ ps. Some (record { callee = callees.Function (record { 0 = function_number f k.functions }); parameters = ps })
designated_by k f referents.PutChar = Some (record { callee = callees.PutChar; parameters = scalars.Int ∷ [] })
designated_by k f referents.GetChar = Some (record { callee = callees.GetChar; parameters = [] })

abbrev pub designated_known : Known → (node : ℕ) → (name : List ℕ) → Option Designator
designated_known k node f = at_number k.referents node >>= designated_by k f

-- 6.5.2.2p7
abbrev pub with_conversion : Scalar → TypedExpr → ArgumentTree
with_conversion s a = record { conversion = between (scalar_of (type_in_use a)) s; value = value_in_use a }

abbrev pub with_argument : ArgumentTree → Arguments → Arguments
with_argument a later = argument_and a.conversion a.value later

-- ---- expressions

abbrev mutual
  pub known : Known → ExprTree → Option TypedExpr
  known k (expr node shape) = at_number k.types node.id >>= λ t. form_known k node.id shape >>= λ form. Some (record { type = t; form = form })

  pub form_known : Known → (node : ℕ) → ShapeTree → Option Form
  form_known k node (trees.constant n is_unsigned) = Some (constant_form n is_unsigned)
  form_known k node (trees.text bytes) = Some (text_known k node)
  form_known k node (trees.name x) = name_known k node
  form_known k node (trees.subscript a b) = known k a >>= λ a. known k b >>= subscript_form k.structs a
  form_known k node (trees.call f es) =
      designated_known k node f >>= λ d. arguments_known k d.parameters es >>= λ given. Some (call d.callee given)
  form_known k node (trees.member access a x) = known k a >>= λ a. member_form k.structs access a x
  form_known k node (trees.step operator a) = known k a >>= step_form k.structs operator
  form_known k node (trees.unary operator a) = known k a >>= unary_form operator
  form_known k node (trees.sizeof_expr a) = type_known k a >>= size_form k.structs
  form_known k node (trees.sizeof_type name) = named_size_known k name
  form_known k node (trees.cast name a) = at_number k.types node >>= λ t. known k a >>= λ a. Some (cast_form t a)
  form_known k node (trees.binary operator a b) = known k a >>= λ a. known k b >>= binary_form k.structs operator a
  form_known k node (trees.conditional c a b) = known k c >>= λ c. known k a >>= λ a. known k b >>= λ b. Some (conditional_form c a b)
  form_known k node (trees.assign operator a b) = known k a >>= λ a. known k b >>= assign_form k.structs operator a
  form_known k node (trees.comma a b) = known k a >>= λ a. known k b >>= λ b. Some (comma_form a b)

  pub type_known : Known → ExprTree → Option TypeTree
  type_known k (expr node shape) = at_number k.types node.id

  pub arguments_known : Known → List Scalar → Exprs → Option Arguments
  arguments_known k [] no_exprs = Some no_arguments
  arguments_known k [] (expr_and e es) = None
  arguments_known k (s ∷ ss) no_exprs = None
  arguments_known k (s ∷ ss) (expr_and e es) = known k e >>= λ a. arguments_known k ss es >>= λ later. Some (with_argument (with_conversion s a) later)
