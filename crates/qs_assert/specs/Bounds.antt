-- What an assertion amounts to at given arguments: a number, infinity, or Wide where a part that is evaluated
-- is finite and too wide.
use Rattle.std.specs.Prelude.{ℕ, ◌^◌, ℤ, pos, unsigned_abs, Bool, true, false, if◌then◌else◌, ◌&&◌, ◌||◌, leb, List, [], ◌∷◌, Some, None, slice_index_or}
pub use Rattle.qs_base.specs.Bytes.{same_bytes as same_name}
use Rattle.qs_assert.specs.declared.variable.Var.{Var}
use Rattle.qs_assert.specs.declared.variable.VarKind.{VarKind}
use Rattle.qs_assert.specs.declared.variable.VarKind.TheVariants.{Plain, Temporary, Old, Returned}
use Rattle.qs_assert.specs.declared.define.Define.{Define}
use Rattle.qs_assert.specs.declared.define.Amount.{Amount}
use Rattle.qs_assert.specs.declared.define.Amount.TheVariants.{Finite, Infinite, Wide}
use Rattle.qs_assert.specs.Trees.{TermTree, number, variable, add, sub, mul, div, wrapu, wraps, bits, TermTrees, no_terms, term_and, CondTree, le, lt, eq, ne, not, and, or, CondTrees, no_conds, cond_and, AssertionTree, natural, infinity, cost, num, total, greatest, product, guard, choose, named, AssertionTrees, no_assertions, assertion_and}
use Rattle.qs_assert.specs.Values.{State, Extended, finite, infinite, term_value, holds, value}

-- outside -(2^127 - 1) to 2^127 - 1
abbrev pub is_wide : ℤ → Bool
is_wide z = leb (2 ^ 127) (unsigned_abs z)

-- finite, and wide
abbrev pub is_wide_value : Extended → Bool
is_wide_value (finite n) = leb (2 ^ 127) n
is_wide_value infinite = false

-- the term or a part of it is wide; all parts of a term are evaluated
abbrev mutual
  pub wide_term : TermTree → State → Bool
  wide_term (number k) s = is_wide k
  wide_term (variable x) s = is_wide (s.at x)
  wide_term (add ts) s = wide_terms ts s || is_wide (term_value (add ts) s)
  wide_term (sub t u) s = (wide_term t s || wide_term u s) || is_wide (term_value (sub t u) s)
  wide_term (mul ts) s = wide_terms ts s || is_wide (term_value (mul ts) s)
  wide_term (div t k) s = wide_term t s || is_wide (term_value (div t k) s)
  wide_term (wrapu t) s = wide_term t s || is_wide (term_value (wrapu t) s)
  wide_term (wraps t) s = wide_term t s || is_wide (term_value (wraps t) s)
  wide_term (bits t) s = wide_term t s || is_wide (term_value (bits t) s)

  pub wide_terms : TermTrees → State → Bool
  wide_terms no_terms s = false
  wide_terms (term_and t ts) s = wide_term t s || wide_terms ts s

-- a part of the condition is wide; all parts of a condition are evaluated
abbrev mutual
  pub wide_cond : CondTree → State → Bool
  wide_cond (le t u) s = wide_term t s || wide_term u s
  wide_cond (lt t u) s = wide_term t s || wide_term u s
  wide_cond (eq t u) s = wide_term t s || wide_term u s
  wide_cond (ne t u) s = wide_term t s || wide_term u s
  wide_cond (not c) s = wide_cond c s
  wide_cond (and cs) s = wide_conds cs s
  wide_cond (or cs) s = wide_conds cs s

  pub wide_conds : CondTrees → State → Bool
  wide_conds no_conds s = false
  wide_conds (cond_and c cs) s = wide_cond c s || wide_conds cs s

-- The assertion or a part of it that is evaluated is finite and wide, `names` telling this of the names.
-- In a conditional only the chosen branch is evaluated, in a guard the assertion only where the condition
-- holds; all else is evaluated.
abbrev mutual
  pub wide : AssertionTree → State → (List ℕ → Bool) → Bool
  wide (natural n) s names = is_wide_value (finite n)
  wide infinity s names = false
  wide (cost f) s names = is_wide_value (finite (s.costs f))
  wide (num t) s names = wide_term t s || is_wide_value (value (num t) s)
  wide (total parts) s names = some_wide parts s names || is_wide_value (value (total parts) s)
  wide (greatest parts) s names = some_wide parts s names || is_wide_value (value (greatest parts) s)
  wide (product parts) s names = some_wide parts s names || is_wide_value (value (product parts) s)
  wide (guard c a) s names = wide_cond c s || (holds c s && wide a s names)
  wide (choose c a b) s names = wide_cond c s || (if holds c s then wide a s names else wide b s names)
  wide (named n) s names = names n

  pub some_wide : AssertionTrees → State → (List ℕ → Bool) → Bool
  some_wide no_assertions s names = false
  some_wide (assertion_and a parts) s names = wide a s names || some_wide parts s names

-- a state, and for each name whether a part of its definition that is evaluated is wide
pub record Setting : Type 0 where
  pub state : State
  pub wides : List ℕ → Bool

abbrev pub is_defined : State → List ℕ → Bool
is_defined s n = elim (s.names n) [ Some v ↦ true | None ↦ false ]

-- A name has the value of its first definition, in which the names that are defined earlier have theirs.
abbrev pub with_definition : Define → Setting → Setting
with_definition d g = record {
  state = record g.state {
    names = λ n. if is_defined g.state n then g.state.names n else (if same_name n d.name then Some (value d.body g.state) else None);
  };
  wides = λ n. if is_defined g.state n then g.wides n else (same_name n d.name && wide d.body g.state g.wides);
}

abbrev pub with_definitions : List Define → Setting → Setting
with_definitions [] g = g
with_definitions (d ∷ ds) g = with_definitions ds (with_definition d g)

-- the number of parameter i; every other variable is unset
abbrev pub argument : List ℤ → VarKind → ℤ
argument args (Plain i) = slice_index_or args i (pos 0)
argument args (Temporary i) = pos 0
argument args (Old i) = pos 0
argument args Returned = pos 0

abbrev pub arguments : List ℤ → Var → ℤ
arguments args x = argument args x.kind

-- the state at the entry of a function, before the definitions
abbrev pub at_entry : List ℤ → List ℕ → Setting
at_entry args costs = record {
  state = record { at = arguments args; costs = λ f. slice_index_or costs f 0; names = λ n. None };
  wides = λ n. false;
}

abbrev pub amount_of : Extended → Amount
amount_of (finite n) = Finite n
amount_of infinite = Infinite

-- Wide where a part that is evaluated is wide, else the value
abbrev pub amount_in : AssertionTree → Setting → Amount
amount_in a g = if wide a g.state g.wides then Wide else amount_of (value a g.state)

-- the value of an assertion where the parameters have these values and the functions these costs
abbrev pub amount_at : AssertionTree → List Define → List ℤ → List ℕ → Amount
amount_at a defines args costs = amount_in a (with_definitions defines (at_entry args costs))

-- what a call of a function takes: its cost, and what it needs
abbrev pub with_cost : AssertionTree → (f : ℕ) → AssertionTree
with_cost pre f = total (assertion_and (cost f) (assertion_and pre no_assertions))

-- the cost of a function and the value of its precondition
abbrev pub bound_at : AssertionTree → List Define → List ℤ → List ℕ → (f : ℕ) → Amount
bound_at pre defines args costs f = amount_at (with_cost pre f) defines args costs

-- the same as a value: a number also where a part of it is wide
abbrev pub need_at : AssertionTree → List Define → List ℤ → List ℕ → (f : ℕ) → Extended
need_at pre defines args costs f = value (with_cost pre f) (with_definitions defines (at_entry args costs)).state
