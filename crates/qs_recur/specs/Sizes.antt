-- How many lists an assertion is written with, and how deep they nest.
use Rattle.std.specs.Prelude.{ℕ, suc, ◌+◌, ◌&&◌, ◌^◌, nat_le, max, unsigned_abs, Bool, true, false, Result, Ok, Err}
use Rattle.qs_assert.specs.Trees.{TermTree, number, variable, add, sub, mul, div, wrapu, wraps, bits, TermTrees, no_terms, term_and, CondTree, le, lt, eq, ne, not, and, or, CondTrees, no_conds, cond_and, AssertionTree, natural, infinity, cost, num, total, greatest, product, guard, choose, named, AssertionTrees, no_assertions, assertion_and}
use Rattle.qs_assert.specs.declared.variable.VarKind.{VarKind}
use Rattle.qs_assert.specs.declared.variable.VarKind.TheVariants.{Plain, Temporary, Old, Returned}
use Rattle.qs_entail.specs.Building.{Stop, assertion_polynomial}
use Rattle.qs_poly.specs.Limits.{count_terms, degree}
use Rattle.qs_poly.specs.Polynomials.{Polynomial, nothing, plus}

-- ---- lists: what stands in parentheses

-- `(old x)` and `(result)` are lists, a word is none
abbrev pub variable_lists : VarKind → ℕ
variable_lists (Plain x) = 0
variable_lists (Temporary k) = 0
variable_lists (Old x) = 1
variable_lists Returned = 1

abbrev mutual
  pub term_lists : TermTree → ℕ
  term_lists (number k) = 0
  term_lists (variable x) = variable_lists x.kind
  term_lists (add ts) = suc (terms_lists ts)
  term_lists (sub t u) = suc (term_lists t + term_lists u)
  term_lists (mul ts) = suc (terms_lists ts)
  term_lists (div t k) = suc (term_lists t)
  term_lists (wrapu t) = suc (term_lists t)
  term_lists (wraps t) = suc (term_lists t)
  term_lists (bits t) = suc (term_lists t)

  pub terms_lists : TermTrees → ℕ
  terms_lists no_terms = 0
  terms_lists (term_and t ts) = term_lists t + terms_lists ts

abbrev mutual
  pub cond_lists : CondTree → ℕ
  cond_lists (le t u) = suc (term_lists t + term_lists u)
  cond_lists (lt t u) = suc (term_lists t + term_lists u)
  cond_lists (eq t u) = suc (term_lists t + term_lists u)
  cond_lists (ne t u) = suc (term_lists t + term_lists u)
  cond_lists (not c) = suc (cond_lists c)
  cond_lists (and cs) = suc (conds_lists cs)
  cond_lists (or cs) = suc (conds_lists cs)

  pub conds_lists : CondTrees → ℕ
  conds_lists no_conds = 0
  conds_lists (cond_and c cs) = cond_lists c + conds_lists cs

abbrev mutual
  pub lists : AssertionTree → ℕ
  lists (natural n) = 0
  lists infinity = 1
  lists (cost f) = 1
  lists (num t) = suc (term_lists t)
  lists (total parts) = suc (all_lists parts)
  lists (greatest parts) = suc (all_lists parts)
  lists (product parts) = suc (all_lists parts)
  lists (guard c a) = suc (cond_lists c + lists a)
  lists (choose c a b) = suc (cond_lists c + (lists a + lists b))
  lists (named n) = 1

  pub all_lists : AssertionTrees → ℕ
  all_lists no_assertions = 0
  all_lists (assertion_and a parts) = lists a + all_lists parts

-- ---- nesting

abbrev mutual
  pub term_depth : TermTree → ℕ
  term_depth (number k) = 0
  term_depth (variable x) = variable_lists x.kind
  term_depth (add ts) = suc (terms_depth ts)
  term_depth (sub t u) = suc (max (term_depth t) (term_depth u))
  term_depth (mul ts) = suc (terms_depth ts)
  term_depth (div t k) = suc (term_depth t)
  term_depth (wrapu t) = suc (term_depth t)
  term_depth (wraps t) = suc (term_depth t)
  term_depth (bits t) = suc (term_depth t)

  pub terms_depth : TermTrees → ℕ
  terms_depth no_terms = 0
  terms_depth (term_and t ts) = max (term_depth t) (terms_depth ts)

abbrev mutual
  pub cond_depth : CondTree → ℕ
  cond_depth (le t u) = suc (max (term_depth t) (term_depth u))
  cond_depth (lt t u) = suc (max (term_depth t) (term_depth u))
  cond_depth (eq t u) = suc (max (term_depth t) (term_depth u))
  cond_depth (ne t u) = suc (max (term_depth t) (term_depth u))
  cond_depth (not c) = suc (cond_depth c)
  cond_depth (and cs) = suc (conds_depth cs)
  cond_depth (or cs) = suc (conds_depth cs)

  pub conds_depth : CondTrees → ℕ
  conds_depth no_conds = 0
  conds_depth (cond_and c cs) = max (cond_depth c) (conds_depth cs)

abbrev mutual
  pub depth : AssertionTree → ℕ
  depth (natural n) = 0
  depth infinity = 1
  depth (cost f) = 1
  depth (num t) = suc (term_depth t)
  depth (total parts) = suc (all_depth parts)
  depth (greatest parts) = suc (all_depth parts)
  depth (product parts) = suc (all_depth parts)
  depth (guard c a) = suc (max (cond_depth c) (depth a))
  depth (choose c a b) = suc (max (cond_depth c) (max (depth a) (depth b)))
  depth (named n) = 1

  pub all_depth : AssertionTrees → ℕ
  all_depth no_assertions = 0
  all_depth (assertion_and a parts) = max (depth a) (all_depth parts)

-- a precondition is written within these
abbrev pub greatest_depth : ℕ
greatest_depth = 200

abbrev pub most_lists : ℕ
most_lists = 10000

abbrev pub is_short : AssertionTree → Bool
is_short a = nat_le (depth a) greatest_depth && nat_le (lists a) most_lists

-- ---- what the other functions that a counting one calls cost

-- only numbers, costs, sums and products
abbrev mutual
  pub is_of_costs : AssertionTree → Bool
  is_of_costs (natural n) = true
  is_of_costs infinity = false
  is_of_costs (cost f) = true
  is_of_costs (num t) = false
  is_of_costs (total parts) = all_of_costs parts
  is_of_costs (greatest parts) = false
  is_of_costs (product parts) = all_of_costs parts
  is_of_costs (guard c a) = false
  is_of_costs (choose c a b) = false
  is_of_costs (named n) = false

  pub all_of_costs : AssertionTrees → Bool
  all_of_costs no_assertions = true
  all_of_costs (assertion_and a parts) = is_of_costs a && all_of_costs parts

-- at most 32 terms, of degree 2, with coefficients of at most 2^40
abbrev pub terms_are_small : Polynomial → Bool
terms_are_small nothing = true
terms_are_small (plus c m p) = nat_le (unsigned_abs c) (2 ^ 40) && nat_le (degree m) 2 && terms_are_small p

abbrev pub is_small : Polynomial → Bool
is_small p = nat_le (count_terms p) 32 && terms_are_small p

abbrev pub is_small_sum : Result Polynomial Stop → Bool
is_small_sum (Ok p) = is_small p
is_small_sum (Err stop) = false

abbrev pub costs_little : AssertionTree → Bool
costs_little a = is_small_sum (assertion_polynomial a)
