-- A tree in which each variable is replaced by its image, all at once.
use Rattle.qs_assert.specs.declared.variable.Var.{Var}
use Rattle.qs_assert.specs.Trees.{TermTree, number, variable, add, sub, mul, div, wrapu, wraps, bits, TermTrees, no_terms, term_and, CondTree, le, lt, eq, ne, not, and, or, CondTrees, no_conds, cond_and, AssertionTree, natural, infinity, cost, num, total, greatest, product, guard, choose, named, AssertionTrees, no_assertions, assertion_and}
use Rattle.qs_assert.specs.Values.{State, term_value}

-- a term for each variable
abbrev pub Images : Type 0
Images = Var → TermTree

abbrev mutual
  pub term_image : Images → TermTree → TermTree
  term_image m (number k) = number k
  term_image m (variable x) = m x
  term_image m (add ts) = add (terms_image m ts)
  term_image m (sub t u) = sub (term_image m t) (term_image m u)
  term_image m (mul ts) = mul (terms_image m ts)
  term_image m (div t k) = div (term_image m t) k
  term_image m (wrapu t) = wrapu (term_image m t)
  term_image m (wraps t) = wraps (term_image m t)
  term_image m (bits t) = bits (term_image m t)

  pub terms_image : Images → TermTrees → TermTrees
  terms_image m no_terms = no_terms
  terms_image m (term_and t ts) = term_and (term_image m t) (terms_image m ts)

abbrev mutual
  pub cond_image : Images → CondTree → CondTree
  cond_image m (le t u) = le (term_image m t) (term_image m u)
  cond_image m (lt t u) = lt (term_image m t) (term_image m u)
  cond_image m (eq t u) = eq (term_image m t) (term_image m u)
  cond_image m (ne t u) = ne (term_image m t) (term_image m u)
  cond_image m (not c) = not (cond_image m c)
  cond_image m (and cs) = and (conds_image m cs)
  cond_image m (or cs) = or (conds_image m cs)

  pub conds_image : Images → CondTrees → CondTrees
  conds_image m no_conds = no_conds
  conds_image m (cond_and c cs) = cond_and (cond_image m c) (conds_image m cs)

abbrev mutual
  pub assertion_image : Images → AssertionTree → AssertionTree
  assertion_image m (natural n) = natural n
  assertion_image m infinity = infinity
  assertion_image m (cost f) = cost f
  assertion_image m (num t) = num (term_image m t)
  assertion_image m (total parts) = total (assertions_image m parts)
  assertion_image m (greatest parts) = greatest (assertions_image m parts)
  assertion_image m (product parts) = product (assertions_image m parts)
  assertion_image m (guard c a) = guard (cond_image m c) (assertion_image m a)
  assertion_image m (choose c a b) = choose (cond_image m c) (assertion_image m a) (assertion_image m b)
  assertion_image m (named n) = named n

  pub assertions_image : Images → AssertionTrees → AssertionTrees
  assertions_image m no_assertions = no_assertions
  assertions_image m (assertion_and a parts) = assertion_and (assertion_image m a) (assertions_image m parts)

-- the state in which each variable has the value of its image
abbrev pub with_images : Images → State → State
with_images m s = record s { at = λ x. term_value (m x) s }
