-- The numbers in the term of a program's expression are of 32 bits.
use Rattle.std.proofs.Common.{◌+◌, sym, ap, ◌≡◌, ◌≤◌, ◌<◌, ◌^◌, ◌==◌, ℕ, refl, subst, arith, Bool, true, false, Some, None}
use Rattle.std.specs.Prelude.{ℤ, pos, negsuc, ◌-ℤ◌, ◌&&◌, nat_lt, nat_le, unsigned_abs, if◌then◌else◌, Option}
use Rattle.std.proofs.lemmas.Bool.{and_parts}
use Rattle.std.proofs.lemmas.Bool.Decides.{nat_tests}
use Rattle.std.proofs.lemmas.Int.{ints}
use Rattle.std.proofs.Math.Pow.{pow-lt}
use Rattle.qs_base.specs.Words.{signed}
use Rattle.qs_memory.specs.Partial.{◌>>=◌, only_if}
use Rattle.qs_memory.specs.Scalars.{is_integer}
use Rattle.qs_memory.specs.Values.{integer, has_type}
use Rattle.qs_memory.specs.declared.scalar.Scalar.{Scalar}
use Rattle.qs_memory.specs.declared.scalar.Scalar.TheVariants as scalars
use Rattle.qs_memory.specs.declared.operation.Signedness.{Signedness}
use Rattle.qs_memory.specs.declared.operation.Signedness.TheVariants.{Signed, Unsigned}
use Rattle.qs_memory.specs.declared.operation.Arithmetic.{Arithmetic}
use Rattle.qs_memory.specs.declared.operation.Arithmetic.TheVariants as arithmetics
use Rattle.qs_memory.specs.declared.operation.UnaryOperation.{UnaryOperation}
use Rattle.qs_memory.specs.declared.operation.UnaryOperation.TheVariants as unaries
use Rattle.qs_memory.specs.declared.operation.BinaryOperation.{BinaryOperation}
use Rattle.qs_memory.specs.declared.operation.BinaryOperation.TheVariants as binaries
use Rattle.qs_core.specs.Expressions.{type_of}
use Rattle.qs_core.specs.Fits.{expr_fits}
use Rattle.qs_core.specs.Terms.{literal_value, literal_of, divisor, power, is_unsigned, times, remainder_of, wrapped_both, divided, remainder, multiple, arithmetic_term, binary_term, unary_term, from_int, from_unsigned, converted_term, if_integer, term_of, nonzero, comparison, comparison_of, negation, both, either, condition_of}
use Rattle.qs_core.specs.TermTrees.{CoreTermTree, number, variable, temporary, combined, quotient, wrapped, CoreConditionTree, compared, not, and, or}
use Rattle.qs_core.specs.declared.term.TermComparison.{TermComparison}
use Rattle.qs_core.specs.declared.term.TermComparison.TheVariants.{Less, LessOrEqual, Equal, NotEqual}
use Rattle.qs_memory.specs.declared.operation.Comparison.{Comparison}
use Rattle.qs_memory.specs.declared.operation.Comparison.TheVariants as comparisons
use Rattle.qs_core.specs.Trees.{CoreExprTree, CoreFunctionTree, CoreUnitTree}
use Rattle.qs_core.specs.Trees as core
use Rattle.qs_core.specs.declared.term.TermOperation.{TermOperation}
use Rattle.qs_core.specs.declared.term.TermOperation.TheVariants.{Add, Subtract, Multiply}
use Rattle.qs_recur.specs.Counters.{Test, below, at_least, least_of, is_counter, constant, counter_left, counter_right, comparison_test, test_in, Step, less, divided as by_quotient, subtraction, wrapped_step, step_in, is_quotient}
use Rattle.qs_recur.proofs.TestLaws.{step_before, test_before, some_same}
use Rattle.qs_recur.proofs.OwnLaws.{IsNarrow}

abbrev pub IsNarrowTerm : CoreTermTree → Type 0
IsNarrowTerm (number k) = unsigned_abs k < 2 ^ 32
IsNarrowTerm (variable s x) = Unit {0}
IsNarrowTerm (temporary s k) = Unit {0}
IsNarrowTerm (combined op t u) = IsNarrowTerm t × IsNarrowTerm u
IsNarrowTerm (quotient t k) = IsNarrowTerm t × (k < 2 ^ 32)
IsNarrowTerm (wrapped s t) = IsNarrowTerm t

-- where there is a term, it is narrow
abbrev Narrow : Option CoreTermTree → Type 0
Narrow o = (t : CoreTermTree) → o ≡ Some t → IsNarrowTerm t

abbrev BelowWord : Option ℕ → Type 0
BelowWord o = (k : ℕ) → o ≡ Some k → k < 2 ^ 32

given : (t : CoreTermTree) → IsNarrowTerm t → Narrow (Some t)
given t h u e = subst IsNarrowTerm (some_same t u e) h

none : Narrow None
none t e = cc

given_if : (b : Bool) (o : Option CoreTermTree) → Narrow o → Narrow (only_if b o)
given_if true o h = h
given_if false o h = none

term_next : (o : Option CoreTermTree) (next : CoreTermTree → Option CoreTermTree) → Narrow o → ((t : CoreTermTree) → IsNarrowTerm t → Narrow (next t)) → Narrow (o >>= next)
term_next None next h f = none
term_next (Some t) next h f = f t (h t refl)

number_next : (o : Option ℕ) (next : ℕ → Option CoreTermTree) → BelowWord o → ((k : ℕ) → k < 2 ^ 32 → Narrow (next k)) → Narrow (o >>= next)
number_next None next h f = none
number_next (Some k) next h f = f k (h k refl)

-- ---- literals

below_char : (n : ℕ) → nat_lt n (2 ^ 8) ≡ true → n < 2 ^ 32
below_char n h = let l : n < 2 ^ 8 = grind (arith, nat_tests, h) in omega (arith, l)

below_word : (n : ℕ) → nat_lt n (2 ^ 32) ≡ true → n < 2 ^ 32
below_word n h = grind (arith, nat_tests, h)

bits_below : (s : Scalar) (n : ℕ) → has_type s (integer n) ≡ true → n < 2 ^ 32
bits_below scalars.Char n h = below_char n h
bits_below scalars.Int n h = below_word n h
bits_below scalars.Unsigned n h = below_word n h
bits_below scalars.Pointer n h = cc

signed_below : (n : ℕ) → n < 2 ^ 32 → unsigned_abs (signed n) < 2 ^ 32
signed_below n l = by (nat_lt n (2 ^ 31)) refl
  where
    by : (b : Bool) → nat_lt n (2 ^ 31) ≡ b → unsigned_abs (if b then pos n else pos n -ℤ pos (2 ^ 32)) < 2 ^ 32
    by true h = l
    by false h =
        let least : 2 ^ 31 ≤ n = grind (arith, nat_tests, h) in
        omega (arith, ints, l, least)

literal_narrow : (s : Scalar) (n : ℕ) → has_type s (integer n) ≡ true → Narrow (if_integer s (number (literal_value s n)))
literal_narrow scalars.Char n h = given (number (pos n)) (bits_below scalars.Char n h)
literal_narrow scalars.Int n h = given (number (signed n)) (signed_below n (bits_below scalars.Int n h))
literal_narrow scalars.Unsigned n h = given (number (pos n)) (bits_below scalars.Unsigned n h)
literal_narrow scalars.Pointer n h = cc

bits_of : (u : CoreUnitTree) (f : CoreFunctionTree) (e : CoreExprTree) → expr_fits u f e ≡ true → BelowWord (literal_of e)
bits_of u f (core.literal s n) h k e = subst (λ (m : ℕ). m < 2 ^ 32) (some_same n k e) (bits_below s n h)
bits_of u f core.null_pointer h k e = cc
bits_of u f (core.variable s x) h k e = cc
bits_of u f (core.temporary s j) h k e = cc
bits_of u f (core.address_of b) h k e = cc
bits_of u f (core.load s a) h k e = cc
bits_of u f (core.member offset a) h k e = cc
bits_of u f (core.unary op a) h k e = cc
bits_of u f (core.binary op a b) h k e = cc
bits_of u f (core.conversion s a) h k e = cc
bits_of u f (core.logical_and a b) h k e = cc
bits_of u f (core.logical_or a b) h k e = cc
bits_of u f (core.conditional c a b) h k e = cc

divisor_below : (o : Option ℕ) → BelowWord o → BelowWord (divisor o)
divisor_below None h k e = cc
divisor_below (Some n) h k e =
    let p = of (nat_le 1 n) e in
    subst (λ (m : ℕ). m < 2 ^ 32) (some_same n k p) (h n refl)
  where
    of : (b : Bool) → only_if b (Some n) ≡ Some k → Some n ≡ Some k
    of true e = e
    of false e = cc

powers : (n : ℕ) → nat_lt n 32 ≡ true → 2 ^ n < 2 ^ 32
powers n h = let l : n < 32 = grind (arith, nat_tests, h) in pow-lt l

power_below : (o : Option ℕ) → BelowWord (power o)
power_below None k e = cc
power_below (Some n) k e = of (nat_lt n 32) refl e
  where
    of : (b : Bool) → nat_lt n 32 ≡ b → only_if b (Some (2 ^ n)) ≡ Some k → k < 2 ^ 32
    of true h e = subst (λ (m : ℕ). m < 2 ^ 32) (some_same (2 ^ n) k e) (powers n h)
    of false h e = cc

-- ---- operations

remainder_narrow : (t : CoreTermTree) (k : ℕ) → IsNarrowTerm t → k < 2 ^ 32 → IsNarrowTerm (remainder_of t k)
remainder_narrow t k h l = (h, (l, (h, l)))

both_narrow : (op : TermOperation) (s : Signedness) (a b : Option CoreTermTree) → Narrow a → Narrow b → Narrow (wrapped_both op s a b)
both_narrow op s a b h i =
    term_next a (λ t. b >>= λ u. Some (wrapped s (combined op t u))) h (λ t x. term_next b (λ u. Some (wrapped s (combined op t u))) i (λ u y. given (wrapped s (combined op t u)) (x, y)))

divided_narrow : (s : Signedness) (a : Option CoreTermTree) (by : Option ℕ) → Narrow a → BelowWord by → Narrow (divided s a by)
divided_narrow s a by h l =
    given_if (is_unsigned s) (a >>= λ t. by >>= λ k. Some (quotient t k))
    (term_next a (λ t. by >>= λ k. Some (quotient t k)) h (λ t x. number_next by (λ k. Some (quotient t k)) l (λ k y. given (quotient t k) (x, y))))

remainder_is_narrow : (s : Signedness) (a : Option CoreTermTree) (by : Option ℕ) → Narrow a → BelowWord by → Narrow (remainder s a by)
remainder_is_narrow s a by h l =
    given_if (is_unsigned s) (a >>= λ t. by >>= λ k. Some (remainder_of t k))
    (term_next a (λ t. by >>= λ k. Some (remainder_of t k)) h (λ t x. number_next by (λ k. Some (remainder_of t k)) l (λ k y. given (remainder_of t k) (remainder_narrow t k x y))))

multiple_narrow : (s : Signedness) (a : Option CoreTermTree) (by : Option ℕ) → Narrow a → BelowWord by → Narrow (multiple s a by)
multiple_narrow s a by h l =
    term_next a (λ t. by >>= λ k. Some (wrapped s (times t k))) h (λ t x. number_next by (λ k. Some (wrapped s (times t k))) l (λ k y. given (wrapped s (times t k)) (x, y)))

arithmetic_narrow :
    (op : Arithmetic) (s : Signedness) (a b : Option CoreTermTree) (bits : Option ℕ) → Narrow a → Narrow b → BelowWord bits → Narrow (arithmetic_term op s a b bits)
arithmetic_narrow arithmetics.Add s a b bits h i l = both_narrow Add s a b h i
arithmetic_narrow arithmetics.Subtract s a b bits h i l = both_narrow Subtract s a b h i
arithmetic_narrow arithmetics.Multiply s a b bits h i l = both_narrow Multiply s a b h i
arithmetic_narrow arithmetics.Divide s a b bits h i l = divided_narrow s a (divisor bits) h (divisor_below bits l)
arithmetic_narrow arithmetics.Remainder s a b bits h i l = remainder_is_narrow s a (divisor bits) h (divisor_below bits l)
arithmetic_narrow arithmetics.ShiftLeft s a b bits h i l = multiple_narrow s a (power bits) h (power_below bits)
arithmetic_narrow arithmetics.ShiftRight s a b bits h i l = divided_narrow s a (power bits) h (power_below bits)
arithmetic_narrow arithmetics.And s a b bits h i l = none
arithmetic_narrow arithmetics.Or s a b bits h i l = none
arithmetic_narrow arithmetics.Xor s a b bits h i l = none

binary_narrow : (op : BinaryOperation) (a b : Option CoreTermTree) (bits : Option ℕ) → Narrow a → Narrow b → BelowWord bits → Narrow (binary_term op a b bits)
binary_narrow (binaries.Arithmetic op s) a b bits h i l = arithmetic_narrow op s a b bits h i l
binary_narrow (binaries.Compare op s) a b bits h i l = none
binary_narrow (binaries.Move direction s element) a b bits h i l = none
binary_narrow (binaries.Difference element) a b bits h i l = none
binary_narrow (binaries.ComparePointers op) a b bits h i l = none

zero_below : unsigned_abs (pos 0) < 2 ^ 32
zero_below = omega arith

unary_narrow : (op : UnaryOperation) (a : Option CoreTermTree) → Narrow a → Narrow (unary_term op a)
unary_narrow (unaries.Plus s) a h = h
unary_narrow (unaries.Minus s) a h =
    term_next a (λ t. Some (wrapped s (combined Subtract (number (pos 0)) t))) h (λ t x. given (wrapped s (combined Subtract (number (pos 0)) t)) (zero_below, x))
unary_narrow (unaries.Complement s) a h = none
unary_narrow unaries.Not a h = none
unary_narrow unaries.Truth a h = none

byte_below : 256 < 2 ^ 32
byte_below = omega arith

int_narrow : (to : Scalar) (t : CoreTermTree) → IsNarrowTerm t → Narrow (from_int to t)
int_narrow scalars.Char t h = given (remainder_of t 256) (remainder_narrow t 256 h byte_below)
int_narrow scalars.Int t h = given t h
int_narrow scalars.Unsigned t h = given (wrapped Unsigned t) h
int_narrow scalars.Pointer t h = none

unsigned_narrow : (to : Scalar) (t : CoreTermTree) → IsNarrowTerm t → Narrow (from_unsigned to t)
unsigned_narrow scalars.Char t h = given (remainder_of t 256) (remainder_narrow t 256 h byte_below)
unsigned_narrow scalars.Int t h = given (wrapped Signed t) h
unsigned_narrow scalars.Unsigned t h = given t h
unsigned_narrow scalars.Pointer t h = none

converted_narrow : (from to : Scalar) (t : CoreTermTree) → IsNarrowTerm t → Narrow (converted_term from to t)
converted_narrow scalars.Char to t h = given_if (is_integer to) (Some t) (given t h)
converted_narrow scalars.Int to t h = int_narrow to t h
converted_narrow scalars.Unsigned to t h = unsigned_narrow to t h
converted_narrow scalars.Pointer to t h = none

-- ---- terms

module _ (u : CoreUnitTree) (f : CoreFunctionTree) where
  pub terms_narrow : (e : CoreExprTree) → expr_fits u f e ≡ true → Narrow (term_of e)
  terms_narrow (core.literal s n) h = literal_narrow s n h
  terms_narrow core.null_pointer h = none
  terms_narrow (core.variable s x) h = given_if (is_integer s) (Some (variable s x)) (given (variable s x) tt)
  terms_narrow (core.temporary s k) h = given_if (is_integer s) (Some (temporary s k)) (given (temporary s k) tt)
  terms_narrow (core.address_of b) h = none
  terms_narrow (core.load s a) h = none
  terms_narrow (core.member offset a) h = none
  terms_narrow (core.unary op a) h = unary_narrow op (term_of a) (terms_narrow a (and_parts (expr_fits u f a) _ h).0)
  terms_narrow (core.binary op a b) h =
      let p = and_parts (expr_fits u f a && expr_fits u f b) _ h in
      let q = and_parts (expr_fits u f a) (expr_fits u f b) p.0 in
      binary_narrow op (term_of a) (term_of b) (literal_of b) (terms_narrow a q.0) (terms_narrow b q.1) (bits_of u f b q.1)
  terms_narrow (core.conversion s a) h =
      term_next (term_of a) (converted_term (type_of a) s) (terms_narrow a (and_parts (expr_fits u f a) _ h).0) (λ t x. converted_narrow (type_of a) s t x)
  terms_narrow (core.logical_and a b) h = none
  terms_narrow (core.logical_or a b) h = none
  terms_narrow (core.conditional c a b) h = none

-- ---- conditions: what a comparison compares

abbrev pub IsNarrowCondition : CoreConditionTree → Type 0
IsNarrowCondition (compared op t u) = IsNarrowTerm t × IsNarrowTerm u
IsNarrowCondition (not c) = Unit {0}
IsNarrowCondition (and c d) = Unit {0}
IsNarrowCondition (or c d) = Unit {0}

abbrev NarrowCondition : Option CoreConditionTree → Type 0
NarrowCondition o = (c : CoreConditionTree) → o ≡ Some c → IsNarrowCondition c

given_condition : (c : CoreConditionTree) → IsNarrowCondition c → NarrowCondition (Some c)
given_condition c h d e = subst IsNarrowCondition (some_same c d e) h

no_condition : NarrowCondition None
no_condition c e = cc

condition_next : (o : Option CoreTermTree) (next : CoreTermTree → Option CoreConditionTree) → Narrow o → ((t : CoreTermTree) → IsNarrowTerm t → NarrowCondition (next t)) → NarrowCondition (o >>= next)
condition_next None next h f = no_condition
condition_next (Some t) next h f = f t (h t refl)

nonzero_narrow : (o : Option CoreTermTree) → Narrow o → NarrowCondition (nonzero o)
nonzero_narrow o h = condition_next o (λ t. Some (compared NotEqual t (number (pos 0)))) h (λ t x. given_condition (compared NotEqual t (number (pos 0))) (x, zero_below))

compared_narrow : (op : Comparison) (t u : CoreTermTree) → IsNarrowTerm t → IsNarrowTerm u → IsNarrowCondition (comparison op t u)
compared_narrow comparisons.Less t u x y = (x, y)
compared_narrow comparisons.LessOrEqual t u x y = (x, y)
compared_narrow comparisons.Greater t u x y = (y, x)
compared_narrow comparisons.GreaterOrEqual t u x y = (y, x)
compared_narrow comparisons.Equal t u x y = (x, y)
compared_narrow comparisons.NotEqual t u x y = (x, y)

comparison_narrow : (op : Comparison) (a b : Option CoreTermTree) → Narrow a → Narrow b → NarrowCondition (comparison_of op a b)
comparison_narrow op a b h i =
    condition_next a (λ t. b >>= λ u. Some (comparison op t u)) h
    (λ t x. condition_next b (λ u. Some (comparison op t u)) i (λ u y. given_condition (comparison op t u) (compared_narrow op t u x y)))

negation_narrow : (o : Option CoreConditionTree) → NarrowCondition (negation o)
negation_narrow None = no_condition
negation_narrow (Some c) = given_condition (not c) tt

both_conditions : (a b : Option CoreConditionTree) → NarrowCondition (both a b)
both_conditions None b = no_condition
both_conditions (Some c) None = no_condition
both_conditions (Some c) (Some d) = given_condition (and c d) tt

either_condition : (a b : Option CoreConditionTree) → NarrowCondition (either a b)
either_condition None b = no_condition
either_condition (Some c) None = no_condition
either_condition (Some c) (Some d) = given_condition (or c d) tt

module _ (u : CoreUnitTree) (f : CoreFunctionTree) where
  pub conditions_narrow : (e : CoreExprTree) → expr_fits u f e ≡ true → NarrowCondition (condition_of e)
  conditions_narrow (core.literal s n) h = nonzero_narrow (term_of (core.literal s n)) (terms_narrow u f (core.literal s n) h)
  conditions_narrow core.null_pointer h = no_condition
  conditions_narrow (core.variable s x) h = nonzero_narrow (term_of (core.variable s x)) (terms_narrow u f (core.variable s x) h)
  conditions_narrow (core.temporary s k) h = nonzero_narrow (term_of (core.temporary s k)) (terms_narrow u f (core.temporary s k) h)
  conditions_narrow (core.address_of b) h = no_condition
  conditions_narrow (core.load s a) h = no_condition
  conditions_narrow (core.member offset a) h = no_condition
  conditions_narrow (core.unary (unaries.Plus s) a) h = nonzero_narrow (term_of (core.unary (unaries.Plus s) a)) (terms_narrow u f (core.unary (unaries.Plus s) a) h)
  conditions_narrow (core.unary (unaries.Minus s) a) h = nonzero_narrow (term_of (core.unary (unaries.Minus s) a)) (terms_narrow u f (core.unary (unaries.Minus s) a) h)
  conditions_narrow (core.unary (unaries.Complement s) a) h = no_condition
  conditions_narrow (core.unary unaries.Not a) h = negation_narrow (condition_of a)
  conditions_narrow (core.unary unaries.Truth a) h = no_condition
  conditions_narrow (core.binary (binaries.Arithmetic op s) a b) h = nonzero_narrow (term_of (core.binary (binaries.Arithmetic op s) a b)) (terms_narrow u f (core.binary (binaries.Arithmetic op s) a b) h)
  conditions_narrow (core.binary (binaries.Compare op s) a b) h =
      let p = and_parts (expr_fits u f a && expr_fits u f b) _ h in
      let q = and_parts (expr_fits u f a) (expr_fits u f b) p.0 in
      comparison_narrow op (term_of a) (term_of b) (terms_narrow u f a q.0) (terms_narrow u f b q.1)
  conditions_narrow (core.binary (binaries.Move direction s element) a b) h = no_condition
  conditions_narrow (core.binary (binaries.Difference element) a b) h = no_condition
  conditions_narrow (core.binary (binaries.ComparePointers op) a b) h = no_condition
  conditions_narrow (core.conversion s a) h = nonzero_narrow (term_of (core.conversion s a)) (terms_narrow u f (core.conversion s a) h)
  conditions_narrow (core.logical_and a b) h = both_conditions (condition_of a) (condition_of b)
  conditions_narrow (core.logical_or a b) h = either_condition (condition_of a) (condition_of b)
  conditions_narrow (core.conditional c a b) h = no_condition

-- ---- tests and steps

abbrev IsSmallTest : Option Test → Type 0
IsSmallTest o = (test : Test) → o ≡ Some test → least_of test ≤ 2 ^ 32

given_test : (test : Test) → least_of test ≤ 2 ^ 32 → IsSmallTest (Some test)
given_test test h other e = subst (λ (t : Test). least_of t ≤ 2 ^ 32) (some_same test other e) h

no_test : IsSmallTest None
no_test test e = cc

test_if : (b : Bool) (o : Option Test) → IsSmallTest o → IsSmallTest (only_if b o)
test_if true o h = h
test_if false o h = no_test

constant_next : (t : CoreTermTree) (next : ℕ → Option Test) → IsNarrowTerm t → ((k : ℕ) → k < 2 ^ 32 → IsSmallTest (next k)) → IsSmallTest (constant t >>= next)
constant_next (number (pos k)) next h f = f k h
constant_next (number (negsuc k)) next h f = no_test
constant_next (variable s y) next h f = no_test
constant_next (temporary s k) next h f = no_test
constant_next (combined op t u) next h f = no_test
constant_next (quotient t k) next h f = no_test
constant_next (wrapped s t) next h f = no_test

left_small : (op : TermComparison) (k : ℕ) → k < 2 ^ 32 → IsSmallTest (counter_left op k)
left_small Less k l = given_test (below k) (omega (arith, l))
left_small LessOrEqual k l = given_test (below (k + 1)) (omega (arith, l))
left_small Equal k l = test_if (k == 0) (Some (below 1)) (given_test (below 1) (omega arith))
left_small NotEqual k l = test_if (k == 0) (Some (at_least 1)) (given_test (at_least 1) (omega arith))

right_small : (op : TermComparison) (k : ℕ) → k < 2 ^ 32 → IsSmallTest (counter_right op k)
right_small Less k l = given_test (at_least (k + 1)) (omega (arith, l))
right_small LessOrEqual k l = given_test (at_least k) (omega (arith, l))
right_small Equal k l = no_test
right_small NotEqual k l = no_test

comparison_small : (x : ℕ) (op : TermComparison) (t u : CoreTermTree) → IsNarrowTerm t → IsNarrowTerm u → IsSmallTest (comparison_test x op t u)
comparison_small x op t u h i = by (is_counter x t)
  where
    by : (b : Bool) → IsSmallTest (if b then constant u >>= counter_left op else only_if (is_counter x u) (constant t >>= counter_right op))
    by true = constant_next u (counter_left op) i (left_small op)
    by false = test_if (is_counter x u) (constant t >>= counter_right op) (constant_next t (counter_right op) h (right_small op))

pub tests_are_small : (x : ℕ) (c : CoreConditionTree) → IsNarrowCondition c → (test : Test) → test_in x c ≡ Some test → least_of test ≤ 2 ^ 32
tests_are_small x (compared op t u) h test e = comparison_small x op t u h.0 h.1 test e
tests_are_small x (not c) h test e = cc
tests_are_small x (and c d) h test e = cc
tests_are_small x (or c d) h test e = cc

narrow_quotient : (t : CoreTermTree) (k x : ℕ) (s : Step) → k < 2 ^ 32 → only_if (is_counter x t) (Some (by_quotient k)) ≡ Some s → IsNarrow s
narrow_quotient t k x s l h = by (is_counter x t) h
  where
    by : (b : Bool) → only_if b (Some (by_quotient k)) ≡ Some s → IsNarrow s
    by true e = subst IsNarrow (some_same (by_quotient k) s e) (omega (arith, l))
    by false e = cc

-- what is taken off has no limit of its own
any_difference : (s : Step) → is_quotient s ≡ false → IsNarrow s
any_difference (less k) h = tt
any_difference (by_quotient k) h = cc

difference_subtracts : (x : ℕ) (op : TermOperation) (t u : CoreTermTree) (s : Step) → subtraction x op t u ≡ Some s → is_quotient s ≡ false
difference_subtracts x Add t u s h = cc
difference_subtracts x Multiply t u s h = cc
difference_subtracts x Subtract t u s h =
    let p = test_before (is_counter x t) (constant u >>= λ k. Some (less k)) s h in
    let q = step_before (constant u) (λ k. Some (less k)) s p.1 in
    ap is_quotient (sym (some_same (less q.0) s q.2))

wrapped_narrow : (x : ℕ) (sign : Signedness) (t : CoreTermTree) (s : Step) → wrapped_step x sign t ≡ Some s → IsNarrow s
wrapped_narrow x Signed t s h = cc
wrapped_narrow x Unsigned (number k) s h = cc
wrapped_narrow x Unsigned (variable r y) s h = cc
wrapped_narrow x Unsigned (temporary r k) s h = cc
wrapped_narrow x Unsigned (combined op t u) s h = any_difference s (difference_subtracts x op t u s h)
wrapped_narrow x Unsigned (quotient t k) s h = cc
wrapped_narrow x Unsigned (wrapped r t) s h = cc

pub steps_are_narrow : (x : ℕ) (t : CoreTermTree) → IsNarrowTerm t → (s : Step) → step_in x t ≡ Some s → IsNarrow s
steps_are_narrow x (number k) h s e = cc
steps_are_narrow x (variable r y) h s e = cc
steps_are_narrow x (temporary r k) h s e = cc
steps_are_narrow x (combined op t u) h s e = cc
steps_are_narrow x (quotient t k) h s e = narrow_quotient t k x s h.1 e
steps_are_narrow x (wrapped sign t) h s e = wrapped_narrow x sign t s e
