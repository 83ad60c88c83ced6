-- The types of expressions, and the rules that their nodes keep (C11 6.5). Each form has its tests, by the types of its parts, and the
-- type that it has where it breaks none of them.
use Rattle.std.specs.Prelude.{ℕ, ◌+◌, ◌==◌, Bool, true, false, not, ◌&&◌, ◌||◌, List, [], ◌∷◌, ◌++◌, Option, Some, None, is_some, length, if◌then◌else◌}
use Rattle.qs_base.specs.Bytes.{same_bytes}
use Rattle.qs_syntax_vocabulary.specs.declared.operators.UnaryOperator.{UnaryOperator}
use Rattle.qs_syntax_vocabulary.specs.declared.operators.UnaryOperator.TheVariants as unaries
use Rattle.qs_syntax_vocabulary.specs.declared.operators.BinaryOperator.{BinaryOperator}
use Rattle.qs_syntax_vocabulary.specs.declared.operators.BinaryOperator.TheVariants as binaries
use Rattle.qs_syntax_vocabulary.specs.declared.operators.AssignmentOperator.{AssignmentOperator}
use Rattle.qs_syntax_vocabulary.specs.declared.operators.AssignmentOperator.TheVariants as assigns
use Rattle.qs_syntax_vocabulary.specs.declared.operators.Access.{Access}
use Rattle.qs_syntax_vocabulary.specs.declared.operators.Access.TheVariants as accesses
use Rattle.qs_syntax.specs.declared.types.TypeName.{TypeName}
use Rattle.qs_syntax.specs.Trees.{ExprTree, expr, ShapeTree, Exprs, no_exprs, expr_and}
use Rattle.qs_syntax.specs.Trees as trees
use Rattle.qs_types.specs.Types.{TypeTree, int, unsigned, char, void, pointer, array, struct, MemberTree, Structs, same_type, is_integer, is_pointer, is_array, is_struct, is_scalar, referenced}
use Rattle.qs_types.specs.Layout.{and_then, is_complete, struct_of}
use Rattle.qs_types.specs.Conversions.{decayed, promoted, arithmetic, common}
use Rattle.qs_types.specs.GivenFunctions.{Signature}
use Rattle.qs_types.specs.declared.rules.Rule.TheVariants as rules
use Rattle.qs_types.specs.Rules.{Test, test, keeps, type_unless}
use Rattle.qs_types.specs.Contexts.{Entity, local_variable, file_variable, function, given, Context, entity_of, named_type, is_void_base}

-- ---- the words of the rules

-- 6.3.2.1p1: names of variables, `*e`, `e[i]`, `e.m` of an lvalue, `p->m`, and texts
abbrev mutual
  pub is_lvalue : ExprTree → Bool
  is_lvalue (expr node shape) = is_lvalue_shape shape

  pub is_lvalue_shape : ShapeTree → Bool
  is_lvalue_shape (trees.constant n u) = false
  is_lvalue_shape (trees.text bytes) = true
  is_lvalue_shape (trees.name x) = true
  is_lvalue_shape (trees.unary unaries.Indirect a) = true
  is_lvalue_shape (trees.unary unaries.Address a) = false
  is_lvalue_shape (trees.unary unaries.Plus a) = false
  is_lvalue_shape (trees.unary unaries.Minus a) = false
  is_lvalue_shape (trees.unary unaries.Complement a) = false
  is_lvalue_shape (trees.unary unaries.Not a) = false
  is_lvalue_shape (trees.step operator a) = false
  is_lvalue_shape (trees.cast n a) = false
  is_lvalue_shape (trees.sizeof_type n) = false
  is_lvalue_shape (trees.sizeof_expr a) = false
  is_lvalue_shape (trees.binary operator a b) = false
  is_lvalue_shape (trees.assign operator a b) = false
  is_lvalue_shape (trees.conditional c a b) = false
  is_lvalue_shape (trees.comma a b) = false
  is_lvalue_shape (trees.subscript a b) = true
  is_lvalue_shape (trees.member accesses.Dot a x) = is_lvalue a
  is_lvalue_shape (trees.member accesses.Arrow a x) = true
  is_lvalue_shape (trees.call f es) = false

-- 6.3.2.3p3: an integer literal of value 0
abbrev pub is_null_constant : ExprTree → Bool
is_null_constant (expr node (trees.constant n u)) = n == 0
is_null_constant (expr node _) = false

abbrev pub both_integers : TypeTree → TypeTree → Bool
both_integers t u = is_integer t && is_integer u

abbrev pub same_pointers : TypeTree → TypeTree → Bool
same_pointers t u = is_pointer t && same_type t u

abbrev pub is_object_pointer : Structs → TypeTree → Bool
is_object_pointer structs t = is_pointer t && is_complete structs (referenced t)

-- 6.5.16.1p1: an expression whose value has type u may be assigned to type t
abbrev pub is_assignable : (to : TypeTree) → ExprTree → (u : TypeTree) → Bool
is_assignable t e u = both_integers t u || (same_pointers t u || (is_pointer t && is_null_constant e))

-- two pointers of one type, or a pointer and a null constant
abbrev pub alike_pointers : ExprTree → TypeTree → ExprTree → TypeTree → Bool
alike_pointers a t b u = same_pointers t u || ((is_pointer t && is_null_constant b) || (is_null_constant a && is_pointer u))

-- ---- an expression whose parts have types: its tests, and its type where it breaks none

pub record Judged : Type 0 where
  pub tests : List Test
  pub type : TypeTree

abbrev pub judged : List Test → TypeTree → Judged
judged tests t = record { tests = tests; type = t }

-- ---- unary operators (6.5.3.2, 6.5.3.3), at the type of the operand; t is that type and v the type of its value

abbrev pub unary_judged : Structs → UnaryOperator → ExprTree → (t v : TypeTree) → Judged
unary_judged structs unaries.Address a t v = judged (keeps rules.AddressOperand (is_lvalue a)) (pointer t)
unary_judged structs unaries.Indirect a t v = judged (keeps rules.IndirectOperand (is_object_pointer structs v)) (referenced v)
unary_judged structs unaries.Plus a t v = judged (keeps rules.ArithmeticOperand (is_integer v)) (promoted v)
unary_judged structs unaries.Minus a t v = judged (keeps rules.ArithmeticOperand (is_integer v)) (promoted v)
unary_judged structs unaries.Complement a t v = judged (keeps rules.ArithmeticOperand (is_integer v)) (promoted v)
unary_judged structs unaries.Not a t v = judged (keeps rules.ArithmeticOperand (is_scalar v)) int

-- 6.5.2.4, 6.5.3.1
abbrev pub step_judged : Structs → ExprTree → TypeTree → Judged
step_judged structs a t = judged (keeps rules.StepOperand (is_lvalue a && (is_integer t || is_object_pointer structs t))) t

-- ---- type names (6.5.3.4, 6.5.4)

abbrev pub name_tests : Context → TypeName → List Test
name_tests context n = keeps rules.UnknownTag (is_some (named_type context n)) ++ test rules.IncompleteType (is_void_base n.base)

-- the named type; where there is none a test fails
abbrev pub type_or_void : Option TypeTree → TypeTree
type_or_void None = void
type_or_void (Some t) = t

-- 6.5.4: integer to integer, pointer to pointer, a null constant to a pointer
abbrev pub may_cast : (to : TypeTree) → ExprTree → (u : TypeTree) → Bool
may_cast t e u = both_integers t u || (is_pointer t && (is_pointer u || is_null_constant e))

abbrev pub cast_judged : Context → TypeName → ExprTree → (u : TypeTree) → Judged
cast_judged context n e u =
    judged (name_tests context n ++ test rules.CastType (is_some (named_type context n) && not (may_cast (type_or_void (named_type context n)) e u)))
    (type_or_void (named_type context n))

abbrev pub size_judged : Context → TypeName → Judged
size_judged context n =
    judged (name_tests context n ++ test rules.IncompleteType (is_some (named_type context n) && not (is_complete context.structs (type_or_void (named_type context n))))) unsigned

-- ---- operators between two values of the types t and u (6.5.5 to 6.5.14)

-- 6.5.6p2: two integers, or a pointer to an object and an integer
abbrev pub may_add : Structs → TypeTree → TypeTree → Bool
may_add structs t u = both_integers t u || ((is_object_pointer structs t && is_integer u) || (is_integer t && is_object_pointer structs u))

-- 6.5.6p3: two integers, a pointer to an object and an integer, or two such pointers of one type
abbrev pub may_subtract : Structs → TypeTree → TypeTree → Bool
may_subtract structs t u = both_integers t u || (is_object_pointer structs t && (is_integer u || same_type t u))

-- 6.5.6p8
abbrev pub sum_type : TypeTree → TypeTree → TypeTree
sum_type t u = common t u

-- 6.5.6p8, p9: the difference of two pointers is an int
abbrev pub difference_type : TypeTree → TypeTree → TypeTree
difference_type t u = if is_pointer t && is_pointer u then int else common t u

-- 6.5.8p2
abbrev pub may_order : TypeTree → TypeTree → Bool
may_order t u = both_integers t u || same_pointers t u

-- 6.5.9p2
abbrev pub may_equal : ExprTree → TypeTree → ExprTree → TypeTree → Bool
may_equal a t b u = both_integers t u || alike_pointers a t b u

abbrev pub integers_judged : (t u result : TypeTree) → Judged
integers_judged t u result = judged (keeps rules.IntegerOperands (both_integers t u)) result

abbrev pub order_judged : (t u : TypeTree) → Judged
order_judged t u = judged (keeps rules.OrderOperands (may_order t u)) int

abbrev pub equality_judged : ExprTree → TypeTree → ExprTree → TypeTree → Judged
equality_judged a t b u = judged (keeps rules.EqualityOperands (may_equal a t b u)) int

abbrev pub truth_judged : (t u : TypeTree) → Judged
truth_judged t u = judged (keeps rules.TruthOperand (is_scalar t && is_scalar u)) int

abbrev pub binary_judged : Structs → BinaryOperator → ExprTree → TypeTree → ExprTree → TypeTree → Judged
binary_judged structs binaries.Multiply a t b u = integers_judged t u (arithmetic t u)
binary_judged structs binaries.Divide a t b u = integers_judged t u (arithmetic t u)
binary_judged structs binaries.Remainder a t b u = integers_judged t u (arithmetic t u)
binary_judged structs binaries.Add a t b u = judged (keeps rules.SumOperands (may_add structs t u)) (sum_type t u)
binary_judged structs binaries.Subtract a t b u = judged (keeps rules.SumOperands (may_subtract structs t u)) (difference_type t u)
binary_judged structs binaries.ShiftLeft a t b u = integers_judged t u (promoted t)
binary_judged structs binaries.ShiftRight a t b u = integers_judged t u (promoted t)
binary_judged structs binaries.Less a t b u = order_judged t u
binary_judged structs binaries.LessEqual a t b u = order_judged t u
binary_judged structs binaries.Greater a t b u = order_judged t u
binary_judged structs binaries.GreaterEqual a t b u = order_judged t u
binary_judged structs binaries.Equal a t b u = equality_judged a t b u
binary_judged structs binaries.NotEqual a t b u = equality_judged a t b u
binary_judged structs binaries.BitAnd a t b u = integers_judged t u (arithmetic t u)
binary_judged structs binaries.BitXor a t b u = integers_judged t u (arithmetic t u)
binary_judged structs binaries.BitOr a t b u = integers_judged t u (arithmetic t u)
binary_judged structs binaries.And a t b u = truth_judged t u
binary_judged structs binaries.Or a t b u = truth_judged t u

-- 6.5.15p2, p3
abbrev pub may_choose : (c : TypeTree) → ExprTree → TypeTree → ExprTree → TypeTree → Bool
may_choose c a t b u = is_scalar c && (both_integers t u || alike_pointers a t b u)

abbrev pub conditional_judged : (c : TypeTree) → ExprTree → TypeTree → ExprTree → TypeTree → Judged
conditional_judged c a t b u = judged (keeps rules.BranchTypes (may_choose c a t b u)) (common t u)

-- ---- assignments (6.5.16): t is the type of the left operand, u that of the right one

-- 6.5.16.1p1
abbrev pub may_assign : ExprTree → TypeTree → ExprTree → TypeTree → Bool
may_assign a t b u = (is_lvalue a && not (is_array t)) && (is_assignable t b (decayed u) || (is_struct t && (same_type t u && is_lvalue b)))

-- 6.5.16.2p2: an lvalue, and two integers
abbrev pub may_combine : ExprTree → TypeTree → TypeTree → Bool
may_combine a t v = is_lvalue a && both_integers t v

-- 6.5.16.2p1: an lvalue, and an integer or a pointer to an object on the left and an integer on the right
abbrev pub may_move : Structs → ExprTree → TypeTree → TypeTree → Bool
may_move structs a t v = is_lvalue a && ((is_integer t || is_object_pointer structs t) && is_integer v)

abbrev pub compound_judged : Bool → TypeTree → Judged
compound_judged may t = judged (keeps rules.CompoundOperands may) t

abbrev pub assign_judged : Structs → AssignmentOperator → ExprTree → TypeTree → ExprTree → TypeTree → Judged
assign_judged structs assigns.Plain a t b u = judged (keeps rules.AssignedType (may_assign a t b u)) t
assign_judged structs assigns.Multiply a t b u = compound_judged (may_combine a t (decayed u)) t
assign_judged structs assigns.Divide a t b u = compound_judged (may_combine a t (decayed u)) t
assign_judged structs assigns.Remainder a t b u = compound_judged (may_combine a t (decayed u)) t
assign_judged structs assigns.Add a t b u = compound_judged (may_move structs a t (decayed u)) t
assign_judged structs assigns.Subtract a t b u = compound_judged (may_move structs a t (decayed u)) t
assign_judged structs assigns.ShiftLeft a t b u = compound_judged (may_combine a t (decayed u)) t
assign_judged structs assigns.ShiftRight a t b u = compound_judged (may_combine a t (decayed u)) t
assign_judged structs assigns.BitAnd a t b u = compound_judged (may_combine a t (decayed u)) t
assign_judged structs assigns.BitXor a t b u = compound_judged (may_combine a t (decayed u)) t
assign_judged structs assigns.BitOr a t b u = compound_judged (may_combine a t (decayed u)) t

-- ---- subscripts and members (6.5.2.1, 6.5.2.3)

-- `a[i]` is `*(a + i)`
abbrev pub subscript_judged : Structs → (t u : TypeTree) → Judged
subscript_judged structs t u =
    judged (keeps rules.SumOperands (may_add structs t u) ++ test rules.IndirectOperand (may_add structs t u && not (is_object_pointer structs (sum_type t u))))
    (referenced (sum_type t u))

abbrev pub member_in : List ℕ → List MemberTree → Option TypeTree
member_in x [] = None
member_in x (m ∷ ms) = if same_bytes m.name x then Some m.type else member_in x ms

-- the type of the member of a struct
abbrev pub member_type : Structs → TypeTree → List ℕ → Option TypeTree
member_type structs (struct k) x = and_then (struct_of structs k) (member_in x)
member_type structs _ x = None

abbrev pub found_member : Bool → Option TypeTree → Judged
found_member may m = judged (keeps rules.UnknownMember (may && is_some m)) (type_or_void m)

abbrev pub member_judged : Structs → Access → ExprTree → TypeTree → List ℕ → Judged
member_judged structs accesses.Dot a t x = found_member (is_lvalue a) (member_type structs t x)
member_judged structs accesses.Arrow a t x = found_member (is_pointer (decayed t)) (member_type structs (referenced (decayed t)) x)

-- ---- names and calls (6.5.1, 6.5.2.2)

abbrev pub unknown_name : Judged
unknown_name = judged (test rules.UnknownVariable true) void

-- None where the declaration has no type
abbrev pub variable_judged : Option TypeTree → Option Judged
variable_judged o = and_then o (λ t. Some (judged [] t))

abbrev pub name_judged : Option Entity → Option Judged
name_judged None = Some unknown_name
name_judged (Some (local_variable node t)) = variable_judged t
name_judged (Some (file_variable node t)) = variable_judged t
name_judged (Some (function node signature body)) = Some unknown_name
name_judged (Some (given signature)) = Some unknown_name

-- 6.5.2.2p2: each argument that has a parameter may be assigned to it
abbrev pub arguments_fit : List TypeTree → Exprs → List TypeTree → Bool
arguments_fit [] es us = true
arguments_fit (t ∷ ts) no_exprs us = true
arguments_fit (t ∷ ts) (expr_and e es) [] = true
arguments_fit (t ∷ ts) (expr_and e es) (u ∷ us) = is_assignable t e (decayed u) && arguments_fit ts es us

abbrev pub signature_judged : Signature → Exprs → List TypeTree → Judged
signature_judged s es us = judged (keeps rules.ArgumentCount (length s.parameters == length us) ++ keeps rules.ArgumentType (arguments_fit s.parameters es us)) s.result

abbrev pub unknown_call : Judged
unknown_call = judged (test rules.UnknownFunction true) void

abbrev pub call_judged : Option Entity → Exprs → List TypeTree → Option Judged
call_judged None es us = Some unknown_call
call_judged (Some (local_variable node t)) es us = Some unknown_call
call_judged (Some (file_variable node t)) es us = Some unknown_call
call_judged (Some (function node signature body)) es us = and_then signature (λ s. Some (signature_judged s es us))
call_judged (Some (given signature)) es us = Some (signature_judged signature es us)

-- ---- expressions

abbrev mutual
  -- None where the expression or a part of it has no type
  pub type_of : Context → ExprTree → Option TypeTree
  type_of c (expr node shape) = and_then (shape_judged c shape) (λ j. type_unless j.tests j.type)

  -- None where a part has no type
  pub shape_judged : Context → ShapeTree → Option Judged
  shape_judged c (trees.constant n u) = Some (judged [] (if u then unsigned else int))
  shape_judged c (trees.text bytes) = Some (judged [] (array char (length bytes + 1)))
  shape_judged c (trees.name x) = name_judged (entity_of c x)
  shape_judged c (trees.unary operator a) = and_then (type_of c a) (λ t. Some (unary_judged c.structs operator a t (decayed t)))
  shape_judged c (trees.step operator a) = and_then (type_of c a) (λ t. Some (step_judged c.structs a t))
  shape_judged c (trees.cast n a) = and_then (type_of c a) (λ t. Some (cast_judged c n a (decayed t)))
  shape_judged c (trees.sizeof_type n) = Some (size_judged c n)
  shape_judged c (trees.sizeof_expr a) = and_then (type_of c a) (λ t. Some (judged (keeps rules.IncompleteType (is_complete c.structs t)) unsigned))
  shape_judged c (trees.binary operator a b) =
      and_then (type_of c a) (λ t. and_then (type_of c b) (λ u. Some (binary_judged c.structs operator a (decayed t) b (decayed u))))
  shape_judged c (trees.assign operator a b) =
      and_then (type_of c a) (λ t. and_then (type_of c b) (λ u. Some (assign_judged c.structs operator a t b u)))
  shape_judged c (trees.conditional d a b) =
      and_then (type_of c d) (λ s. and_then (type_of c a) (λ t. and_then (type_of c b) (λ u.
      Some (conditional_judged (decayed s) a (decayed t) b (decayed u)))))
  shape_judged c (trees.comma a b) = and_then (type_of c a) (λ t. and_then (type_of c b) (λ u. Some (judged [] (decayed u))))
  shape_judged c (trees.subscript a b) =
      and_then (type_of c a) (λ t. and_then (type_of c b) (λ u. Some (subscript_judged c.structs (decayed t) (decayed u))))
  shape_judged c (trees.member access a x) = and_then (type_of c a) (λ t. Some (member_judged c.structs access a t x))
  shape_judged c (trees.call f es) = and_then (types_of c es) (λ us. call_judged (entity_of c f) es us)

  pub types_of : Context → Exprs → Option (List TypeTree)
  types_of c no_exprs = Some []
  types_of c (expr_and e es) = and_then (type_of c e) (λ t. and_then (types_of c es) (λ ts. Some (t ∷ ts)))
