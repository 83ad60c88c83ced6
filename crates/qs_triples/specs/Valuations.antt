-- What an assertion of a function says at a moment of a call of it: the numbers of its variables, and
-- its value for given costs.
use Rattle.std.specs.Prelude.{◌%◌, ◌^◌, ℤ, pos, Bool, false, if◌then◌else◌, List, [], ◌∷◌, Option, Some, None}
use Rattle.qs_base.specs.Words.{signed}
use Rattle.qs_memory.specs.Partial.{◌>>=◌, only_if}
use Rattle.qs_memory.specs.Values.{Value, integer, address}
use Rattle.qs_memory.specs.Scalars.{is_integer}
use Rattle.qs_memory.specs.declared.scalar.Scalar.{Scalar}
use Rattle.qs_memory.specs.declared.scalar.Scalar.TheVariants as scalars
use Rattle.qs_events.specs.Weights.{Costs}
use Rattle.qs_calls.specs.World.{Environment, no_values, with_value}
use Rattle.qs_calls.specs.declared.parameter.Parameter.{Parameter}
use Rattle.qs_calls.specs.declared.parameter.Parameter.TheVariants.{Plain, Placed}
use Rattle.qs_assert.specs.declared.define.Define.{Define}
use Rattle.qs_assert.specs.declared.variable.NumberType.{NumberType}
use Rattle.qs_assert.specs.declared.variable.NumberType.TheVariants as numbers
use Rattle.qs_assert.specs.declared.variable.VarKind.{VarKind}
use Rattle.qs_assert.specs.declared.variable.VarKind.TheVariants as kinds
use Rattle.qs_assert.specs.declared.variable.Var.{Var}
use Rattle.qs_assert.specs.Substitution.{same_number_type}
use Rattle.qs_assert.specs.Trees.{AssertionTree}
use Rattle.qs_assert.specs.Values.{State, Extended, value}
use Rattle.qs_entail.specs.Meaning.{defined_by}
use Rattle.qs_core.specs.Trees.{CoreFunctionTree}
use Rattle.qs_core.specs.Expressions.{Locals}
use Rattle.qs_core.specs.Interfaces.{variable_type, temporary_type}
use Rattle.qs_core.specs.Units.{frame_of}

-- ---- numbers

-- The number of a value at an integer type (C11 6.2.6.2). A value of that type is below 2 ^ 32 or
-- 2 ^ 8, so the remainder is the value; a pointer has no number and counts as 0.
abbrev pub number_of : Value → NumberType → ℤ
number_of (integer n) numbers.Int = signed (n % 2 ^ 32)
number_of (integer n) numbers.Unsigned = pos (n % 2 ^ 32)
number_of (integer n) numbers.Char = pos (n % 2 ^ 8)
number_of (address p) type = pos 0

-- a variable without a value counts as 0
abbrev pub number_or_zero : Option Value → NumberType → ℤ
number_or_zero None type = pos 0
number_or_zero (Some v) type = number_of v type

-- ---- the variables of a function

-- the integer type that a scalar is; that of a pointer is never asked
abbrev pub number_type : Scalar → NumberType
number_type scalars.Char = numbers.Char
number_type scalars.Int = numbers.Int
number_type scalars.Unsigned = numbers.Unsigned
number_type scalars.Pointer = numbers.Int

abbrev pub if_number : Scalar → Option NumberType
if_number s = only_if (is_integer s) (Some (number_type s))

abbrev pub number_if : Option Scalar → Option NumberType
number_if s = s >>= if_number

-- the integer type under which a variable stands in the function's assertions, if it has one
abbrev pub own_type : CoreFunctionTree → VarKind → Option NumberType
own_type f (kinds.Plain x) = variable_type f x >>= if_number
own_type f (kinds.Temporary k) = temporary_type f k >>= if_number
own_type f (kinds.Old x) = variable_type f x >>= if_number
own_type f kinds.Returned = f.result_type >>= if_number

abbrev pub is_number_type : Option NumberType → NumberType → Bool
is_number_type None type = false
is_number_type (Some own) type = same_number_type own type

-- an integer variable of the function, under its own type
abbrev pub is_own : CoreFunctionTree → Var → Bool
is_own f x = is_number_type (own_type f x.kind) x.number

-- ---- moments

-- the values of all that an assertion can speak of
pub record Valuation : Type 0 where
  pub variables : Environment
  pub temporaries : Environment
  -- the values of the variables at the entry
  pub old : Environment
  pub result : Option Value

abbrev pub value_of : VarKind → Valuation → Option Value
value_of (kinds.Plain x) v = v.variables x
value_of (kinds.Temporary k) v = v.temporaries k
value_of (kinds.Old x) v = v.old x
value_of kinds.Returned v = v.result

-- a variable that the function doesn't have under that type counts as 0
abbrev pub number_at : CoreFunctionTree → Valuation → Var → ℤ
number_at f v x = if is_own f x then number_or_zero (value_of x.kind v) x.number else pos 0

-- 6.9.1p10: the variables where the parameters have these values; a placed parameter is no variable
abbrev pub passed : List Parameter → (arguments : List Value) → Environment → Environment
passed [] arguments e = e
passed (p ∷ parameters) [] e = e
passed (Plain x ∷ parameters) (v ∷ arguments) e = passed parameters arguments (with_value e x v)
passed (Placed i s ∷ parameters) (v ∷ arguments) e = passed parameters arguments e

abbrev pub entered : CoreFunctionTree → (arguments : List Value) → Environment
entered f arguments = passed (frame_of f).parameters arguments no_values

abbrev pub at_entry : CoreFunctionTree → (arguments : List Value) → Valuation
at_entry f arguments = record {
  variables = entered f arguments;
  temporaries = no_values;
  old = entered f arguments;
  result = None;
}

-- within a body that was entered with these values
abbrev pub within : (old : Environment) → Locals → Valuation
within old l =
    record { variables = l.variables; temporaries = l.temporaries; old = old; result = None }

abbrev pub at_exit : (old : Environment) → (result : Option Value) → Valuation
at_exit old result =
    record { variables = no_values; temporaries = no_values; old = old; result = result }

-- ---- values

-- numbers for the variables, costs for the functions, and the definitions of names
abbrev pub state_of : Costs → List Define → (Var → ℤ) → State
state_of cost defines numbers =
    defined_by defines (record { at = numbers; costs = cost; names = λ n. None })

abbrev pub value_at : Costs → List Define → CoreFunctionTree → Valuation → AssertionTree → Extended
value_at cost defines f v a = value a (state_of cost defines (number_at f v))

-- the value of a function's precondition at these arguments
abbrev pub value_at_entry :
    Costs → List Define → CoreFunctionTree → (arguments : List Value) → (pre : AssertionTree)
    → Extended
value_at_entry cost defines f arguments pre = value_at cost defines f (at_entry f arguments) pre
