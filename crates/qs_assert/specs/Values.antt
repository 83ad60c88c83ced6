-- The values of terms, conditions and assertions in a state.
use Rattle.std.specs.Prelude.{ℕ, zero, suc, ◌+◌, ◌*◌, ◌^◌, ◌==◌, max, ℤ, pos, negsuc, ◌+ℤ◌, ◌-ℤ◌, ◌*ℤ◌, Bool, true, false, if◌then◌else◌, ◌&&◌, ◌||◌, int_le, int_lt, ltb, List, Option, Some, None}
use Rattle.std.specs.Prelude.{not as flip}
use Rattle.std.specs.Int.{int_div_euclid, int_rem_euclid}
use Rattle.std.specs.Ordering.{int_eq}
use Rattle.qs_assert.specs.declared.variable.Var.{Var}
use Rattle.qs_assert.specs.Trees.{TermTree, number, variable, add, sub, mul, div, wrapu, wraps, bits, TermTrees, no_terms, term_and, CondTree, le, lt, eq, ne, not, and, or, CondTrees, no_conds, cond_and, AssertionTree, natural, infinity, cost, num, total, greatest, product, guard, choose, named, AssertionTrees, no_assertions, assertion_and}

-- a natural number or infinity
pub data Extended : Type 0 where
  finite : ℕ → Extended
  infinite : Extended

-- What a value depends on: the numbers of the variables, an unset one being 0; the cost of each function;
-- and the values of the names that have a definition.
pub record State : Type 0 where
  pub at : Var → ℤ
  pub costs : ℕ → ℕ
  pub names : List ℕ → Option Extended

-- z modulo 2^32
abbrev pub wrapped_unsigned : ℤ → ℤ
wrapped_unsigned z = int_rem_euclid z (pos (2 ^ 32))

-- z modulo 2^32, from -2^31 to 2^31 - 1
abbrev pub wrapped_signed : ℤ → ℤ
wrapped_signed z =
    let low = wrapped_unsigned z in if int_lt low (pos (2 ^ 31)) then low else low -ℤ pos (2 ^ 32)

-- the first k' from k on with n < 2^k', or k + steps where that comes first
unfoldable pub least_power : ℕ → ℕ → ℕ → ℕ
least_power zero k n = k
least_power (suc steps) k n = elim (ltb n (2 ^ k)) [ true ↦ k | false ↦ least_power steps (suc k) n ]

-- the least k of at least 0 with z < 2^k; for a natural number n it is at most n
unfoldable pub bit_length : ℤ → ℕ
bit_length (pos n) = least_power n 0 n
bit_length (negsuc n) = 0

-- z divided by k, rounded down. `Term::div` wants a k of at least 1, but `Term::from_nodes` can make a term that
-- divides by 0: that is 0, or -1 where z is below 0.
abbrev pub quotient : ℤ → ℕ → ℤ
quotient z k = int_div_euclid z (pos k)

abbrev mutual
  pub term_value : TermTree → State → ℤ
  term_value (number k) s = k
  term_value (variable x) s = s.at x
  term_value (add ts) s = sum_of_terms ts s
  term_value (sub t u) s = term_value t s -ℤ term_value u s
  term_value (mul ts) s = product_of_terms ts s
  term_value (div t k) s = quotient (term_value t s) k
  term_value (wrapu t) s = wrapped_unsigned (term_value t s)
  term_value (wraps t) s = wrapped_signed (term_value t s)
  term_value (bits t) s = pos (bit_length (term_value t s))

  pub sum_of_terms : TermTrees → State → ℤ
  sum_of_terms no_terms s = pos 0
  sum_of_terms (term_and t ts) s = term_value t s +ℤ sum_of_terms ts s

  pub product_of_terms : TermTrees → State → ℤ
  product_of_terms no_terms s = pos 1
  product_of_terms (term_and t ts) s = term_value t s *ℤ product_of_terms ts s

abbrev mutual
  pub holds : CondTree → State → Bool
  holds (le t u) s = int_le (term_value t s) (term_value u s)
  holds (lt t u) s = int_lt (term_value t s) (term_value u s)
  holds (eq t u) s = int_eq (term_value t s) (term_value u s)
  holds (ne t u) s = flip (int_eq (term_value t s) (term_value u s))
  holds (not c) s = flip (holds c s)
  holds (and cs) s = all_hold cs s
  holds (or cs) s = some_holds cs s

  pub all_hold : CondTrees → State → Bool
  all_hold no_conds s = true
  all_hold (cond_and c cs) s = holds c s && all_hold cs s

  pub some_holds : CondTrees → State → Bool
  some_holds no_conds s = false
  some_holds (cond_and c cs) s = holds c s || some_holds cs s

abbrev pub plus : Extended → Extended → Extended
plus (finite a) (finite b) = finite (a + b)
plus (finite a) infinite = infinite
plus infinite b = infinite

abbrev pub greater : Extended → Extended → Extended
greater (finite a) (finite b) = finite (max a b)
greater (finite a) infinite = infinite
greater infinite b = infinite

-- 0 where a factor is 0
abbrev pub times : Extended → Extended → Extended
times (finite a) (finite b) = finite (a * b)
times (finite a) infinite = if a == 0 then finite 0 else infinite
times infinite (finite b) = if b == 0 then finite 0 else infinite
times infinite infinite = infinite

-- the greater of 0 and z
abbrev pub natural_part : ℤ → ℕ
natural_part (pos n) = n
natural_part (negsuc n) = 0

-- infinity where a name has no definition
abbrev pub or_infinite : Option Extended → Extended
or_infinite (Some v) = v
or_infinite None = infinite

abbrev mutual
  pub value : AssertionTree → State → Extended
  value (natural n) s = finite n
  value infinity s = infinite
  value (cost f) s = finite (s.costs f)
  value (num t) s = finite (natural_part (term_value t s))
  value (total parts) s = sum_of parts s
  value (greatest parts) s = greatest_of parts s
  value (product parts) s = product_of parts s
  value (guard c a) s = if holds c s then value a s else infinite
  value (choose c a b) s = if holds c s then value a s else value b s
  value (named n) s = or_infinite (s.names n)

  pub sum_of : AssertionTrees → State → Extended
  sum_of no_assertions s = finite 0
  sum_of (assertion_and a parts) s = plus (value a s) (sum_of parts s)

  pub greatest_of : AssertionTrees → State → Extended
  greatest_of no_assertions s = finite 0
  greatest_of (assertion_and a parts) s = greater (value a s) (greatest_of parts s)

  pub product_of : AssertionTrees → State → Extended
  product_of no_assertions s = finite 1
  product_of (assertion_and a parts) s = times (value a s) (product_of parts s)
