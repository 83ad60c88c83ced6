-- The tests of a counter, and the steps by which calls make it smaller.
use Rattle.std.specs.Prelude.{ℕ, ℤ, pos, negsuc, ◌+◌, ◌==◌, ◌&&◌, nat_le, Bool, true, false, if◌then◌else◌, List, Option, Some, None}
use Rattle.std.specs.List.{slice_get}
use Rattle.qs_memory.specs.Partial.{◌>>=◌, only_if}
use Rattle.qs_memory.specs.declared.scalar.Scalar.{Scalar}
use Rattle.qs_memory.specs.declared.scalar.Scalar.TheVariants as scalars
use Rattle.qs_memory.specs.declared.operation.Signedness.{Signedness}
use Rattle.qs_memory.specs.declared.operation.Signedness.TheVariants.{Signed, Unsigned}
use Rattle.qs_core.specs.TermTrees.{CoreTermTree, number, variable, temporary, combined, quotient, wrapped, CoreConditionTree, compared, not, and, or}
use Rattle.qs_core.specs.Terms.{term_of}
use Rattle.qs_core.specs.Trees.{CoreExprTree}
use Rattle.qs_core.specs.declared.term.TermOperation.{TermOperation}
use Rattle.qs_core.specs.declared.term.TermOperation.TheVariants.{Add, Subtract, Multiply}
use Rattle.qs_core.specs.declared.term.TermComparison.{TermComparison}
use Rattle.qs_core.specs.declared.term.TermComparison.TheVariants.{Less, LessOrEqual, Equal, NotEqual}

-- ---- terms

abbrev pub is_unsigned_variable : (x : ℕ) → Scalar → (y : ℕ) → Bool
is_unsigned_variable x scalars.Char y = false
is_unsigned_variable x scalars.Int y = false
is_unsigned_variable x scalars.Unsigned y = y == x
is_unsigned_variable x scalars.Pointer y = false

-- the term is the variable x of type `unsigned`
abbrev pub is_counter : (x : ℕ) → CoreTermTree → Bool
is_counter x (number k) = false
is_counter x (variable s y) = is_unsigned_variable x s y
is_counter x (temporary s k) = false
is_counter x (combined op t u) = false
is_counter x (quotient t k) = false
is_counter x (wrapped s t) = false

abbrev pub natural_of : ℤ → Option ℕ
natural_of (pos k) = Some k
natural_of (negsuc k) = None

-- the number that the term is, where it is one of at least 0
abbrev pub constant : CoreTermTree → Option ℕ
constant (number k) = natural_of k
constant (variable s y) = None
constant (temporary s k) = None
constant (combined op t u) = None
constant (quotient t k) = None
constant (wrapped s t) = None

-- ---- tests

-- where a condition on the counter holds: for what is below a number, or for what is at least that
pub data Test : Type 0 where
  below : (least : ℕ) → Test
  at_least : (least : ℕ) → Test

-- the least value of the counter at which calls are made
abbrev pub least_of : Test → ℕ
least_of (below k) = k
least_of (at_least k) = k

abbrev pub if_zero : (k : ℕ) → Test → Option Test
if_zero k test = only_if (k == 0) (Some test)

-- the counter stands on the left, the number on the right
abbrev pub counter_left : TermComparison → (k : ℕ) → Option Test
counter_left Less k = Some (below k)
counter_left LessOrEqual k = Some (below (k + 1))
counter_left Equal k = if_zero k (below 1)
counter_left NotEqual k = if_zero k (at_least 1)

abbrev pub counter_right : TermComparison → (k : ℕ) → Option Test
counter_right Less k = Some (at_least (k + 1))
counter_right LessOrEqual k = Some (at_least k)
counter_right Equal k = None
counter_right NotEqual k = None

abbrev pub comparison_test : (x : ℕ) → TermComparison → (left right : CoreTermTree) → Option Test
comparison_test x op t u =
    if is_counter x t then constant u >>= counter_left op
    else only_if (is_counter x u) (constant t >>= counter_right op)

-- the test of the variable x that a condition is, if it is one
abbrev pub test_in : (x : ℕ) → CoreConditionTree → Option Test
test_in x (compared op t u) = comparison_test x op t u
test_in x (not c) = None
test_in x (and c d) = None
test_in x (or c d) = None

-- ---- steps

-- what a call hands on: the counter less a number, or divided by one
pub data Step : Type 0 where
  less : (by : ℕ) → Step
  divided : (by : ℕ) → Step

abbrev pub subtraction : (x : ℕ) → TermOperation → (left right : CoreTermTree) → Option Step
subtraction x Add t u = None
subtraction x Subtract t u = only_if (is_counter x t) (constant u >>= λ k. Some (less k))
subtraction x Multiply t u = None

abbrev pub difference_step : (x : ℕ) → CoreTermTree → Option Step
difference_step x (number k) = None
difference_step x (variable s y) = None
difference_step x (temporary s k) = None
difference_step x (combined op t u) = subtraction x op t u
difference_step x (quotient t k) = None
difference_step x (wrapped s t) = None

abbrev pub wrapped_step : (x : ℕ) → Signedness → CoreTermTree → Option Step
wrapped_step x Signed t = None
wrapped_step x Unsigned t = difference_step x t

-- from the term of an argument
abbrev pub step_in : (x : ℕ) → CoreTermTree → Option Step
step_in x (number k) = None
step_in x (variable s y) = None
step_in x (temporary s k) = None
step_in x (combined op t u) = None
step_in x (quotient t k) = only_if (is_counter x t) (Some (divided k))
step_in x (wrapped s t) = wrapped_step x s t

-- the step of the argument for x
abbrev pub step_of : (x : ℕ) → (arguments : List CoreExprTree) → Option Step
step_of x es = slice_get es x >>= λ e. term_of e >>= step_in x

-- From `least` on the counter is made smaller: what is taken off is there, and nothing is divided by 0 or by 1.
abbrev pub falls : (least : ℕ) → Step → Bool
falls least (less k) = nat_le 1 k && nat_le k least
falls least (divided k) = nat_le 2 k

abbrev pub is_quotient : Step → Bool
is_quotient (less k) = false
is_quotient (divided k) = true
