-- Which expressions act: those that have statements in core.
use Rattle.std.specs.Prelude.{◌||◌, not, Bool, true, false, Option, Some, None, is_some}
use Rattle.qs_memory.specs.Partial.{◌>>=◌}
use Rattle.qs_memory.specs.Values.{Value, integer}
use Rattle.qs_meaning.specs.States.{convert_by}
use Rattle.qs_meaning.specs.Typed.{Expr, constant, value, pointer_to, member, called, stepped_after, unary, cast, binary, logical_and, logical_or, conditional, assigned, sequence, Lvalue, variable, object, Arguments, no_arguments, argument_and, Effect, nothing, discard, assign, perform, copy, fill, in_order}

-- the value of an expression that is a literal in core
abbrev pub constant_value : Expr → Option Value
constant_value (constant s n) = Some (integer n)
constant_value (value s l) = None
constant_value (pointer_to o) = None
constant_value (member offset a) = None
constant_value (called s f es) = None
constant_value (stepped_after s l operation left back) = None
constant_value (unary operation c a) = None
constant_value (cast c a) = constant_value a >>= convert_by c
constant_value (binary operation order left right a b) = None
constant_value (logical_and a b) = None
constant_value (logical_or a b) = None
constant_value (conditional s a second third b c) = None
constant_value (assigned a) = None
constant_value (sequence a b) = constant_value b

abbrev pub is_constant : Expr → Bool
is_constant a = is_some (constant_value a)

abbrev mutual
  pub acts : Expr → Bool
  acts (constant s n) = false
  acts (value s l) = lvalue_acts l
  acts (pointer_to o) = false
  acts (member offset a) = acts a
  acts (called s f es) = true
  acts (stepped_after s l operation left back) = true
  acts (unary operation c a) = acts a
  acts (cast c a) = acts a
  acts (binary operation order left right a b) = acts a || acts b
  acts (logical_and a b) = acts a || acts b
  acts (logical_or a b) = acts a || acts b
  acts (conditional s a second third b c) = acts a || (acts b || acts c)
  acts (assigned a) = true
  acts (sequence a b) = effect_acts a || acts b

  pub lvalue_acts : Lvalue → Bool
  lvalue_acts (variable x) = false
  lvalue_acts (object a) = acts a

  pub arguments_act : Arguments → Bool
  arguments_act no_arguments = false
  arguments_act (argument_and c a es) = acts a || arguments_act es

  pub effect_acts : Effect → Bool
  effect_acts nothing = false
  effect_acts (discard a) = acts a || not (is_constant a)
  effect_acts (assign a) = true
  effect_acts (perform f es) = true
  effect_acts (copy size alignment a b) = true
  effect_acts (fill blank a) = true
  effect_acts (in_order a b) = effect_acts a || effect_acts b
