-- When a typed tree fits: each conversion, operation, write, call and return stands over values of the types that it takes, and what is
-- numbered is there.
use Rattle.std.specs.Prelude.{ℕ, ◌+◌, ◌==◌, ◌&&◌, ◌||◌, not, nat_lt, nat_le, Bool, true, false, List, [], ◌∷◌, length, Option, Some, None, is_some}
use Rattle.std.specs.List.{slice_get, list_all}
use Rattle.qs_memory.specs.declared.scalar.Scalar.{Scalar}
use Rattle.qs_memory.specs.declared.scalar.Scalar.TheVariants as scalars
use Rattle.qs_memory.specs.declared.operation.BinaryOperation.{BinaryOperation}
use Rattle.qs_memory.specs.declared.operation.BinaryOperation.TheVariants as operations
use Rattle.qs_memory.specs.Scalars.{same_scalar, is_type, is_pointer, is_promoted}
use Rattle.qs_memory.specs.Values.{integer, width, has_type}
use Rattle.qs_memory.specs.Memory.{blank_cells}
use Rattle.qs_memory.specs.Sizes.{largest_size}
use Rattle.qs_memory.specs.Operations.{integer_type, unary_type, binary_type}
use Rattle.qs_memory.specs.Operands.{unary_takes, binary_takes}
use Rattle.qs_calls.specs.declared.parameter.Parameter.{Parameter}
use Rattle.qs_calls.specs.declared.parameter.Parameter.TheVariants.{Plain, Placed}
use Rattle.qs_calls.specs.Starts.{Signature, Interface, signature_of}
use Rattle.qs_meaning.specs.Typed.{Conversion, unchanged, converted, Order, as_written, exchanged, Object, local, static, Expr, constant, value, pointer_to, member, called, stepped_after, unary, cast, binary, logical_and, logical_or, conditional, assigned, sequence, Lvalue, variable, object, Arguments, no_arguments, argument_and, Assignment, set, update, Effect, nothing, discard, assign, perform, copy, fill, in_order, Stmt, evaluate, block, branch, switch, case_label, default_label, while_loop, do_loop, for_loop, break, continue, return, return_nothing, Stmts, no_stmts, stmt_and, Function, TypedProgram}
use Rattle.qs_meaning.specs.Interfaces.{interface_of}

-- ---- types of values

abbrev pub type_after : Conversion → Scalar → Scalar
type_after unchanged s = s
type_after (converted from to) s = to

abbrev pub assigned_type : Assignment → Scalar
assigned_type (set s l c a) = s
assigned_type (update s l operation left right back a) = s

-- the type of the values that an expression has
abbrev pub type_of : Expr → Scalar
type_of (constant s n) = s
type_of (value s l) = s
type_of (pointer_to o) = scalars.Pointer
type_of (member offset a) = scalars.Pointer
type_of (called s f es) = s
type_of (stepped_after s l operation left back) = s
type_of (unary operation c a) = unary_type operation
type_of (cast c a) = type_after c (type_of a)
type_of (binary operation order left right a b) = binary_type operation
type_of (logical_and a b) = scalars.Int
type_of (logical_or a b) = scalars.Int
type_of (conditional s a second third b c) = s
type_of (assigned a) = assigned_type a
type_of (sequence a b) = type_of b

-- ---- what is taken

-- 6.3.1.3, 6.3.2.3p3: between integers, and from a null constant to a pointer
abbrev pub converts : (from to : Scalar) → (is_null : Bool) → Bool
converts from to is_null = not (is_pointer from) && (not (is_pointer to) || is_null)

abbrev pub conversion_fits : Conversion → Scalar → (is_null : Bool) → Bool
conversion_fits unchanged s is_null = true
conversion_fits (converted from to) s is_null = same_scalar from s && converts from to is_null

abbrev pub is_null : Expr → Bool
is_null (constant s n) = n == 0
is_null _ = false

-- 6.5.2.4p2: the amount 1 of a step, which is a value of each integer type
abbrev pub amount_type : BinaryOperation → Scalar
amount_type (operations.Arithmetic op s) = integer_type s
amount_type (operations.Compare op s) = integer_type s
amount_type (operations.Move direction s element) = integer_type s
amount_type (operations.Difference element) = scalars.Int
amount_type (operations.ComparePointers op) = scalars.Int

abbrev pub takes_in_order : Order → BinaryOperation → (left right : Scalar) → Bool
takes_in_order as_written operation t u = binary_takes operation t u
takes_in_order exchanged operation t u = binary_takes operation u t

-- ---- in a function of a unit; the interface has the types of the unit's functions and the blocks that are there from the beginning

abbrev pub object_there : Interface → Function → Object → Bool
object_there i g (local k) = nat_lt k (length g.blocks)
object_there i g (static k) = nat_lt k (length i.data_blocks)

-- the types of the arguments that a function takes
abbrev pub taken : Option Signature → List Scalar
taken None = []
taken (Some f) = f.parameters

abbrev pub is_size : Option ℕ → ℕ → Bool
is_size None size = false
is_size (Some n) size = n == size

-- a list initialises a local, so the whole of a block of the call is filled
abbrev pub is_whole_local : Function → (size : ℕ) → Expr → Bool
is_whole_local g size (pointer_to (local k)) = is_size (slice_get g.blocks k) size
is_whole_local g size _ = false

-- a value of this expression is converted to this type
abbrev pub becomes : Conversion → Expr → Scalar → Bool
becomes c a s = conversion_fits c (type_of a) (is_null a) && same_scalar (type_after c (type_of a)) s

abbrev pub result_fits : Option Signature → Scalar → Bool
result_fits None s = false
result_fits (Some f) s = is_type f.result_type s

abbrev mutual
  pub expr_fits : Interface → Function → Expr → Bool
  expr_fits i g (constant s n) = has_type s (integer n)
  expr_fits i g (value s l) = lvalue_fits i g s l
  expr_fits i g (pointer_to o) = object_there i g o
  expr_fits i g (member offset a) = expr_fits i g a && (is_pointer (type_of a) && nat_le offset largest_size)
  expr_fits i g (called s f es) = arguments_fit i g (taken (signature_of i f)) es && result_fits (signature_of i f) s
  expr_fits i g (stepped_after s l operation left back) =
      lvalue_fits i g s l && (conversion_fits left s false && (binary_takes operation (type_after left s) (amount_type operation)
      && (conversion_fits back (binary_type operation) false && same_scalar (type_after back (binary_type operation)) s)))
  expr_fits i g (unary operation c a) =
      expr_fits i g a && (conversion_fits c (type_of a) (is_null a) && unary_takes operation (type_after c (type_of a)))
  expr_fits i g (cast c a) = expr_fits i g a && conversion_fits c (type_of a) (is_null a)
  expr_fits i g (binary operation order left right a b) =
      (expr_fits i g a && expr_fits i g b) && ((conversion_fits left (type_of a) (is_null a) && conversion_fits right (type_of b) (is_null b))
      && takes_in_order order operation (type_after left (type_of a)) (type_after right (type_of b)))
  expr_fits i g (logical_and a b) = expr_fits i g a && expr_fits i g b
  expr_fits i g (logical_or a b) = expr_fits i g a && expr_fits i g b
  expr_fits i g (conditional s a second third b c) =
      expr_fits i g a && ((expr_fits i g b && becomes second b s) && (expr_fits i g c && becomes third c s))
  expr_fits i g (assigned a) = assignment_fits i g a
  expr_fits i g (sequence a b) = effect_fits i g a && expr_fits i g b

  pub lvalue_fits : Interface → Function → Scalar → Lvalue → Bool
  lvalue_fits i g s (variable x) = is_type (slice_get g.variables x) s
  lvalue_fits i g s (object a) = expr_fits i g a && is_pointer (type_of a)

  pub arguments_fit : Interface → Function → List Scalar → Arguments → Bool
  arguments_fit i g [] no_arguments = true
  arguments_fit i g [] (argument_and c a es) = false
  arguments_fit i g (s ∷ types) no_arguments = false
  arguments_fit i g (s ∷ types) (argument_and c a es) = (expr_fits i g a && becomes c a s) && arguments_fit i g types es

  pub assignment_fits : Interface → Function → Assignment → Bool
  assignment_fits i g (set s l c a) = lvalue_fits i g s l && (expr_fits i g a && becomes c a s)
  assignment_fits i g (update s l operation left right back a) =
      (lvalue_fits i g s l && expr_fits i g a) && ((conversion_fits left s false && conversion_fits right (type_of a) (is_null a))
      && (binary_takes operation (type_after left s) (type_after right (type_of a))
      && (conversion_fits back (binary_type operation) false && same_scalar (type_after back (binary_type operation)) s)))

  pub effect_fits : Interface → Function → Effect → Bool
  effect_fits i g nothing = true
  effect_fits i g (discard a) = expr_fits i g a
  effect_fits i g (assign a) = assignment_fits i g a
  effect_fits i g (perform f es) = is_some (signature_of i f) && arguments_fit i g (taken (signature_of i f)) es
  effect_fits i g (copy size alignment a b) =
      (expr_fits i g a && is_pointer (type_of a)) && ((expr_fits i g b && is_pointer (type_of b)) && (nat_le 1 alignment && nat_le size largest_size))
  effect_fits i g (fill blank a) = expr_fits i g a && is_whole_local g (length (blank_cells blank)) a
  effect_fits i g (in_order a b) = effect_fits i g a && effect_fits i g b

-- ---- statements

abbrev pub returned_fits : Interface → Function → Conversion → Expr → Option Scalar → Bool
returned_fits i g c a None = false
returned_fits i g c a (Some s) = expr_fits i g a && becomes c a s

abbrev pub option_fits : Interface → Function → Option Expr → Bool
option_fits i g None = true
option_fits i g (Some e) = expr_fits i g e

-- 6.8.4.2p1, p5: an integer, which is converted to its promoted type
abbrev pub operand_fits : Conversion → Expr → Bool
operand_fits c a = conversion_fits c (type_of a) (is_null a) && is_promoted (type_after c (type_of a))

abbrev pub is_label : Stmt → Bool
is_label (case_label n) = true
is_label default_label = true
is_label _ = false

-- whether the last of some items is a label; before is whether one stands before them
abbrev pub ends_in_label : (before : Bool) → Stmts → Bool
ends_in_label before no_stmts = before
ends_in_label before (stmt_and s ss) = ends_in_label (is_label s) ss

-- 6.8.1p1: each label has a statement behind it
abbrev pub labels_fit : Stmts → Bool
labels_fit ss = not (ends_in_label false ss)

abbrev mutual
  -- where a break, and a continue, may stand
  pub stmt_fits : Interface → Function → (may_break may_continue : Bool) → Stmt → Bool
  stmt_fits i g b c (evaluate a) = effect_fits i g a
  stmt_fits i g b c (block ss) = stmts_fit i g b c ss
  stmt_fits i g b c (branch e p q) = expr_fits i g e && (stmt_fits i g b c p && stmt_fits i g b c q)
  stmt_fits i g b c (switch to e ss) = expr_fits i g e && (operand_fits to e && (labels_fit ss && stmts_fit i g true c ss))
  -- a value of int or unsigned
  stmt_fits i g b c (case_label n) = has_type scalars.Int (integer n)
  stmt_fits i g b c default_label = true
  stmt_fits i g b c (while_loop e p) = expr_fits i g e && stmt_fits i g true true p
  stmt_fits i g b c (do_loop p e) = stmt_fits i g true true p && expr_fits i g e
  stmt_fits i g b c (for_loop start e step p) =
      effect_fits i g start && (option_fits i g e && (effect_fits i g step && stmt_fits i g true true p))
  stmt_fits i g b c break = b
  stmt_fits i g b c continue = c
  stmt_fits i g b c (return to a) = returned_fits i g to a g.result
  stmt_fits i g b c return_nothing = true

  pub stmts_fit : Interface → Function → (may_break may_continue : Bool) → Stmts → Bool
  stmts_fit i g b c no_stmts = true
  stmts_fit i g b c (stmt_and s ss) = stmt_fits i g b c s && stmts_fit i g b c ss

-- ---- functions and units

-- parameter i is variable i; where it is placed, its block has the size of its type
abbrev pub place_fits : (blocks : List ℕ) → (i : ℕ) → Scalar → Parameter → Bool
place_fits blocks i s (Plain x) = x == i
place_fits blocks i s (Placed k t) = same_scalar t s && is_size (slice_get blocks k) (width s)

-- the parameters from number i on, with the variables from there on
abbrev pub parameters_placed : (blocks : List ℕ) → (i : ℕ) → List Parameter → (variables : List Scalar) → Bool
parameters_placed blocks i [] vs = true
parameters_placed blocks i (p ∷ ps) [] = false
parameters_placed blocks i (p ∷ ps) (s ∷ vs) = place_fits blocks i s p && parameters_placed blocks (i + 1) ps vs

-- 5.1.2.2.1: main returns an int
abbrev pub end_fits : Function → Bool
end_fits g = not g.is_main || is_type g.result scalars.Int

abbrev pub are_small : List ℕ → Bool
are_small sizes = list_all (λ n. nat_le n largest_size) sizes

abbrev pub function_fits : Interface → Function → Bool
function_fits i g = parameters_placed g.blocks 0 g.parameters g.variables && (end_fits g && (stmts_fit i g false false g.body && are_small g.blocks))

abbrev pub program_fits : TypedProgram → Bool
program_fits u = list_all (function_fits (interface_of u)) u.functions
