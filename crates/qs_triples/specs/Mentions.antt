-- Which variables an assertion may mention, and what stands for those of a called function.
use Rattle.std.specs.Prelude.{ℕ, ◌&&◌, not, is_none, Bool, true, false, List, Option, Some, None}
use Rattle.std.specs.List.{slice_get, find}
use Rattle.qs_memory.specs.Partial.{◌>>=◌, only_if}
use Rattle.qs_calls.specs.declared.parameter.Parameter.{Parameter}
use Rattle.qs_calls.specs.declared.parameter.Parameter.TheVariants.{Plain, Placed}
use Rattle.qs_assert.specs.declared.variable.VarKind.{VarKind}
use Rattle.qs_assert.specs.declared.variable.VarKind.TheVariants as kinds
use Rattle.qs_assert.specs.declared.variable.Var.{Var}
use Rattle.qs_assert.specs.Substitution.{same_kind}
use Rattle.qs_assert.specs.Variables.{variables}
use Rattle.qs_assert.specs.Trees.{TermTree, variable, AssertionTree}
use Rattle.qs_core.specs.Trees.{CoreExprTree, CoreParameterTree, CoreFunctionTree}
use Rattle.qs_triples.specs.Valuations.{is_own}
use Rattle.qs_triples.specs.ExpressionTerms.{expression_term}

-- ---- which variables

abbrev pub is_plain : Parameter → Bool
is_plain (Plain x) = true
is_plain (Placed i s) = false

abbrev pub is_plain_parameter : Option CoreParameterTree → Bool
is_plain_parameter None = false
is_plain_parameter (Some p) = is_plain p.place

-- a plain parameter is the variable of its own number
abbrev pub has_plain_parameter : CoreFunctionTree → (number : ℕ) → Bool
has_plain_parameter f x = is_plain_parameter (slice_get f.parameters x)

-- a precondition mentions only plain parameters
abbrev pub in_pre : CoreFunctionTree → VarKind → Bool
in_pre f (kinds.Plain x) = has_plain_parameter f x
in_pre f (kinds.Temporary k) = false
in_pre f (kinds.Old x) = false
in_pre f kinds.Returned = false

-- a postcondition their values at the entry, and the result
abbrev pub in_post : CoreFunctionTree → VarKind → Bool
in_post f (kinds.Plain x) = false
in_post f (kinds.Temporary k) = false
in_post f (kinds.Old x) = has_plain_parameter f x
in_post f kinds.Returned = true

abbrev pub is_placed_parameter : Option CoreParameterTree → Bool
is_placed_parameter None = false
is_placed_parameter (Some p) = not (is_plain p.place)

-- the value of a placed parameter is in its block, and no variable's
abbrev pub has_placed_parameter : CoreFunctionTree → (number : ℕ) → Bool
has_placed_parameter f x = is_placed_parameter (slice_get f.parameters x)

-- the assertions in a body all of these, and all variables and temporaries
abbrev pub in_body : CoreFunctionTree → VarKind → Bool
in_body f (kinds.Plain x) = not (has_placed_parameter f x)
in_body f (kinds.Temporary k) = true
in_body f (kinds.Old x) = has_plain_parameter f x
in_body f kinds.Returned = true

-- those of integer type alone, and only under their own type
abbrev pub may_mention : CoreFunctionTree → (VarKind → Bool) → Var → Bool
may_mention f allowed x = allowed x.kind && is_own f x

-- the first variable that an assertion mentions and may not, in the order of the text
abbrev pub first_other : CoreFunctionTree → (VarKind → Bool) → AssertionTree → Option Var
first_other f allowed a = find (λ x. not (may_mention f allowed x)) (variables a)

-- ---- what must not be mentioned

-- the first mention of this variable, under any type
abbrev pub first_of : VarKind → AssertionTree → Option Var
first_of kind a = find (λ x. same_kind x.kind kind) (variables a)

-- the first mention of the temporary that a call's result goes to
abbrev pub first_of_destination : (destination : Option ℕ) → AssertionTree → Option Var
first_of_destination None a = None
first_of_destination (Some k) a = first_of (kinds.Temporary k) a

-- ---- a called function's variables

-- the term of the argument of this number
abbrev pub argument_term : List CoreExprTree → (number : ℕ) → Option TermTree
argument_term arguments i = slice_get arguments i >>= expression_term

-- the destination of the call
abbrev pub destination_term : (destination : Option ℕ) → Var → Option TermTree
destination_term None x = None
destination_term (Some k) x =
    Some (variable (record { kind = kinds.Temporary k; number = x.number }))

-- in its precondition, for a parameter the term of its argument
abbrev pub pre_term : List CoreExprTree → Var → VarKind → Option TermTree
pre_term arguments x (kinds.Plain i) = argument_term arguments i
pre_term arguments x (kinds.Temporary k) = None
pre_term arguments x (kinds.Old i) = None
pre_term arguments x kinds.Returned = None

-- in its postcondition, for a parameter's value at the entry that term, and for the result the
-- destination
abbrev pub post_term :
    (destination : Option ℕ) → List CoreExprTree → Var → VarKind → Option TermTree
post_term destination arguments x (kinds.Plain i) = None
post_term destination arguments x (kinds.Temporary k) = None
post_term destination arguments x (kinds.Old i) = argument_term arguments i
post_term destination arguments x kinds.Returned = destination_term destination x

abbrev pub pre_images : CoreFunctionTree → List CoreExprTree → Var → Option TermTree
pre_images g arguments x = only_if (may_mention g (in_pre g) x) (pre_term arguments x x.kind)

abbrev pub post_images :
    CoreFunctionTree → (destination : Option ℕ) → List CoreExprTree → Var → Option TermTree
post_images g destination arguments x =
    only_if (may_mention g (in_post g) x) (post_term destination arguments x x.kind)

abbrev pub is_result : VarKind → Bool
is_result (kinds.Plain x) = false
is_result (kinds.Temporary k) = false
is_result (kinds.Old x) = false
is_result kinds.Returned = true

-- the first variable of a postcondition but the result that has no term
abbrev pub first_without_argument : (Var → Option TermTree) → AssertionTree → Option Var
first_without_argument images a =
    find (λ x. not (is_result x.kind) && is_none (images x)) (variables a)

-- a parameter is told by its plain name
abbrev pub plain_kind : VarKind → VarKind
plain_kind (kinds.Plain x) = kinds.Plain x
plain_kind (kinds.Temporary k) = kinds.Temporary k
plain_kind (kinds.Old x) = kinds.Plain x
plain_kind kinds.Returned = kinds.Returned

abbrev pub plain_variable : Var → Var
plain_variable x = record { kind = plain_kind x.kind; number = x.number }

-- ---- values at the entry

abbrev pub old_kind : VarKind → VarKind
old_kind (kinds.Plain x) = kinds.Old x
old_kind (kinds.Temporary k) = kinds.Temporary k
old_kind (kinds.Old x) = kinds.Old x
old_kind kinds.Returned = kinds.Returned

-- the variable of this kind under the same type
abbrev pub renamed : VarKind → Var → TermTree
renamed kind x = variable (record { kind = kind; number = x.number })

-- each x as `(old x)`
abbrev pub as_old : Var → TermTree
as_old x = renamed (old_kind x.kind) x

-- each `(old x)` as x
abbrev pub as_plain : Var → TermTree
as_plain x = renamed (plain_kind x.kind) x
