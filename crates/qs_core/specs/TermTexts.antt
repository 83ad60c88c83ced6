-- Terms and conditions as text.
use Rattle.std.specs.Prelude.{ℕ, ◌==◌, if◌then◌else◌, List, [], ◌++◌, codes, decimal, Option, Some, None}
use Rattle.std.specs.Fmt.{signed_decimal}
use Rattle.std.specs.List.{slice_get}
use Rattle.qs_memory.specs.declared.operation.Signedness.{Signedness}
use Rattle.qs_memory.specs.declared.operation.Signedness.TheVariants.{Signed, Unsigned}
use Rattle.qs_core.specs.declared.term.TermOperation.{TermOperation}
use Rattle.qs_core.specs.declared.term.TermOperation.TheVariants as operations
use Rattle.qs_core.specs.declared.term.TermComparison.{TermComparison}
use Rattle.qs_core.specs.declared.term.TermComparison.TheVariants as comparisons
use Rattle.qs_core.specs.Trees.{CoreExprTree, CoreVariableTree, CoreFunctionTree}
use Rattle.qs_core.specs.TermTrees.{CoreTermTree, number, variable, temporary, combined, quotient, wrapped}
use Rattle.qs_core.specs.TermTrees.{CoreConditionTree, compared, not, and, or}
use Rattle.qs_core.specs.Terms.{term_of, condition_of}

-- ---- names

-- the first variable of a name is written as the name, the k-th as the name, `#` and k
abbrev pub ordinal_text : ℕ → List ℕ
ordinal_text k = if k == 1 then [] else codes "#" ++ decimal k

abbrev pub variable_name : CoreVariableTree → List ℕ
variable_name v = v.name ++ ordinal_text v.ordinal

-- a number that no variable has is written as nothing; a unit that fits has none
abbrev pub name_or_nothing : Option CoreVariableTree → List ℕ
name_or_nothing None = []
name_or_nothing (Some v) = variable_name v

abbrev pub variable_text : CoreFunctionTree → ℕ → List ℕ
variable_text f x = name_or_nothing (slice_get f.variables x)

abbrev pub temporary_text : ℕ → List ℕ
temporary_text k = codes "$" ++ decimal k

-- ---- heads

abbrev pub operation_head : TermOperation → List ℕ
operation_head operations.Add = codes "add"
operation_head operations.Subtract = codes "sub"
operation_head operations.Multiply = codes "mul"

abbrev pub wrap_head : Signedness → List ℕ
wrap_head Signed = codes "wraps"
wrap_head Unsigned = codes "wrapu"

abbrev pub comparison_head : TermComparison → List ℕ
comparison_head comparisons.LessOrEqual = codes "le"
comparison_head comparisons.Less = codes "lt"
comparison_head comparisons.Equal = codes "eq"
comparison_head comparisons.NotEqual = codes "ne"

-- ---- terms

-- `(head t)` and `(head t u)`
abbrev pub applied : (head t : List ℕ) → List ℕ
applied head t = codes "(" ++ head ++ codes " " ++ t ++ codes ")"

abbrev pub applied_to_both : (head t u : List ℕ) → List ℕ
applied_to_both head t u = codes "(" ++ head ++ codes " " ++ t ++ codes " " ++ u ++ codes ")"

abbrev pub term_text : CoreFunctionTree → CoreTermTree → List ℕ
term_text f (number n) = signed_decimal n
term_text f (variable s x) = variable_text f x
term_text f (temporary s k) = temporary_text k
term_text f (combined op t u) = applied_to_both (operation_head op) (term_text f t) (term_text f u)
term_text f (quotient t k) = applied_to_both (codes "div") (term_text f t) (decimal k)
term_text f (wrapped s t) = applied (wrap_head s) (term_text f t)

abbrev pub condition_text : CoreFunctionTree → CoreConditionTree → List ℕ
condition_text f (compared op t u) =
    applied_to_both (comparison_head op) (term_text f t) (term_text f u)
condition_text f (not c) = applied (codes "not") (condition_text f c)
condition_text f (and c d) = applied_to_both (codes "and") (condition_text f c) (condition_text f d)
condition_text f (or c d) = applied_to_both (codes "or") (condition_text f c) (condition_text f d)

-- ---- what stands in an outline

-- `?` where there is none
abbrev pub term_or_mark : CoreFunctionTree → Option CoreTermTree → List ℕ
term_or_mark f None = codes "?"
term_or_mark f (Some t) = term_text f t

abbrev pub condition_or_mark : CoreFunctionTree → Option CoreConditionTree → List ℕ
condition_or_mark f None = codes "?"
condition_or_mark f (Some c) = condition_text f c

abbrev pub expr_text : CoreFunctionTree → CoreExprTree → List ℕ
expr_text f e = term_or_mark f (term_of e)

abbrev pub test_text : CoreFunctionTree → CoreExprTree → List ℕ
test_text f e = condition_or_mark f (condition_of e)
