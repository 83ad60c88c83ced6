-- What an expression is before it is known how it is used, and the three ways in which it is: as an lvalue, as a value, for its effect
-- (C11 6.3.2.1, 6.5.17, 6.8.3).
use Rattle.std.specs.Prelude.{ℕ, Option, Some, None}
use Rattle.qs_types.specs.Types.{TypeTree, int, unsigned, char, void, pointer, array, struct}
use Rattle.qs_memory.specs.Partial.{◌>>=◌}
use Rattle.qs_calls.specs.declared.callee.Callee.{Callee}
use Rattle.qs_types.specs.Conversions.{decayed}
use Rattle.qs_meaning.specs.Conversions.{scalar_of}
use Rattle.qs_meaning.specs.Typed.{Expr, value, called, assigned, sequence, Lvalue, variable, object, Arguments, Assignment, Effect, discard, assign, perform, copy, in_order}

pub data Form : Type 0 where
  -- 6.3.2.1p1
  lvalue : Lvalue → Form
  -- a value that is no lvalue
  result : Expr → Form
  -- 6.5.2.2
  call : Callee → Arguments → Form
  -- 6.5.16, 6.5.3.1: a scalar assignment, `++a` and `--a` among them
  assignment : Assignment → Form
  -- 6.5.2.4: `a++` writes, and has the value before
  step : Assignment → (before : Expr) → Form
  -- 6.5.16.1p1, p2: an assignment of a struct
  struct_assignment : (size alignment : ℕ) → (to from : Expr) → Form
  -- 6.5.17: the effect of the left operand, then the right one, with its type
  comma : Effect → TypeTree → Form → Form

pub record TypedExpr : Type 0 where
  pub type : TypeTree
  pub form : Form

-- ---- as an lvalue

-- 6.3.2.1p1
abbrev pub lvalue_of : Form → Option Lvalue
lvalue_of (lvalue l) = Some l
lvalue_of (result e) = None
lvalue_of (call f given) = None
lvalue_of (assignment a) = None
lvalue_of (step a before) = None
lvalue_of (struct_assignment size alignment to from) = None
lvalue_of (comma a t b) = None

-- a plain variable has no address
abbrev pub address_in : Lvalue → Option Expr
address_in (variable x) = None
address_in (object p) = Some p

abbrev pub address_of : Form → Option Expr
address_of form = lvalue_of form >>= address_in

-- ---- as a value

-- the address where there is one; an array or a struct always has one
abbrev pub place_of : TypeTree → Lvalue → Expr
place_of t (variable x) = value (scalar_of t) (variable x)
place_of t (object p) = p

-- 6.3.2.1p2, p3: an lvalue turns into the value that it has, one of an array into a pointer to its first element; a struct stands as its
-- address
abbrev pub value_in : TypeTree → Lvalue → Expr
value_in int l = value (scalar_of int) l
value_in unsigned l = value (scalar_of unsigned) l
value_in char l = value (scalar_of char) l
value_in void l = place_of void l
value_in (pointer t) l = value (scalar_of (pointer t)) l
value_in (array t n) l = place_of (array t n) l
value_in (struct k) l = place_of (struct k) l

-- the assignment of a struct has no value that is used
abbrev pub value_of : TypeTree → Form → Expr
value_of t (lvalue l) = value_in t l
value_of t (result e) = e
value_of t (call f given) = called (scalar_of t) f given
value_of t (assignment a) = assigned a
value_of t (step a before) = before
value_of t (struct_assignment size alignment to from) = sequence (copy size alignment to from) to
value_of t (comma a u b) = sequence a (value_of u b)

-- ---- for its effect

-- 6.8.3p2, 6.5.17p2: the value is discarded, so a call needs none, and `a++` is `++a`
abbrev pub effect_of : TypeTree → Form → Effect
effect_of t (lvalue l) = discard (value_in t l)
effect_of t (result e) = discard e
effect_of t (call f given) = perform f given
effect_of t (assignment a) = assign a
effect_of t (step a before) = assign a
effect_of t (struct_assignment size alignment to from) = copy size alignment to from
effect_of t (comma a u b) = in_order a (effect_of u b)

-- ---- an expression with its type

-- 6.3.2.1p3
abbrev pub type_in_use : TypedExpr → TypeTree
type_in_use a = decayed a.type

abbrev pub value_in_use : TypedExpr → Expr
value_in_use a = value_of a.type a.form

abbrev pub effect_in_use : TypedExpr → Effect
effect_in_use a = effect_of a.type a.form
