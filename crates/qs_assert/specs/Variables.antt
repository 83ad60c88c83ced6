-- Which variables a tree mentions, in the order of the text.
use Rattle.std.specs.Prelude.{◌≡◌, Bool, true, false, ℤ, List, [], ◌∷◌, ◌++◌}
use Rattle.std.specs.List.{list_any}
use Rattle.qs_assert.specs.declared.variable.Var.{Var}
use Rattle.qs_assert.specs.declared.node.TermNode.{TermNode}
use Rattle.qs_assert.specs.declared.node.TermNode.TheVariants.{Number, Variable, Add, Sub, Mul, Div, WrapUnsigned, WrapSigned, Bits}
use Rattle.qs_assert.specs.declared.node.Node.{Node}
use Rattle.qs_assert.specs.declared.node.Node.TheVariants.{Term, Condition, Assertion}
use Rattle.qs_assert.specs.Substitution.{same_variable}
use Rattle.qs_assert.specs.Trees.{TermTree, number, variable, add, sub, mul, div, wrapu, wraps, bits, TermTrees, no_terms, term_and, CondTree, le, lt, eq, ne, not, and, or, CondTrees, no_conds, cond_and, AssertionTree, natural, infinity, cost, num, total, greatest, product, guard, choose, named, AssertionTrees, no_assertions, assertion_and}
use Rattle.qs_assert.specs.Values.{State, value}

abbrev mutual
  pub term_variables : TermTree → List Var
  term_variables (number k) = []
  term_variables (variable x) = x ∷ []
  term_variables (add ts) = terms_variables ts
  term_variables (sub t u) = term_variables t ++ term_variables u
  term_variables (mul ts) = terms_variables ts
  term_variables (div t k) = term_variables t
  term_variables (wrapu t) = term_variables t
  term_variables (wraps t) = term_variables t
  term_variables (bits t) = term_variables t

  pub terms_variables : TermTrees → List Var
  terms_variables no_terms = []
  terms_variables (term_and t ts) = term_variables t ++ terms_variables ts

abbrev mutual
  pub cond_variables : CondTree → List Var
  cond_variables (le t u) = term_variables t ++ term_variables u
  cond_variables (lt t u) = term_variables t ++ term_variables u
  cond_variables (eq t u) = term_variables t ++ term_variables u
  cond_variables (ne t u) = term_variables t ++ term_variables u
  cond_variables (not c) = cond_variables c
  cond_variables (and cs) = conds_variables cs
  cond_variables (or cs) = conds_variables cs

  pub conds_variables : CondTrees → List Var
  conds_variables no_conds = []
  conds_variables (cond_and c cs) = cond_variables c ++ conds_variables cs

abbrev mutual
  pub variables : AssertionTree → List Var
  variables (natural n) = []
  variables infinity = []
  variables (cost f) = []
  variables (num t) = term_variables t
  variables (total parts) = all_variables parts
  variables (greatest parts) = all_variables parts
  variables (product parts) = all_variables parts
  variables (guard c a) = cond_variables c ++ variables a
  variables (choose c a b) = cond_variables c ++ (variables a ++ variables b)
  variables (named n) = []

  pub all_variables : AssertionTrees → List Var
  all_variables no_assertions = []
  all_variables (assertion_and a parts) = variables a ++ all_variables parts

-- the variable is mentioned, at its type
abbrev pub mentions : AssertionTree → Var → Bool
mentions a x = list_any (λ y. same_variable y x) (variables a)

-- ---- nodes

abbrev pub head_variables : TermNode → List Var
head_variables (Number k) = []
head_variables (Variable x) = x ∷ []
head_variables (Add n) = []
head_variables Sub = []
head_variables (Mul n) = []
head_variables (Div k) = []
head_variables WrapUnsigned = []
head_variables WrapSigned = []
head_variables Bits = []

abbrev pub node_variables : Node → List Var
node_variables (Term node) = head_variables node
node_variables (Condition node) = []
node_variables (Assertion node) = []

abbrev pub head_mentions : Var → TermNode → Bool
head_mentions x (Number k) = false
head_mentions x (Variable y) = same_variable y x
head_mentions x (Add n) = false
head_mentions x Sub = false
head_mentions x (Mul n) = false
head_mentions x (Div k) = false
head_mentions x WrapUnsigned = false
head_mentions x WrapSigned = false
head_mentions x Bits = false

-- the node is this variable
abbrev pub node_mentions : Var → Node → Bool
node_mentions x (Term node) = head_mentions x node
node_mentions x (Condition node) = false
node_mentions x (Assertion node) = false

-- ---- the law

-- An assertion has the same value where the variables that it mentions have the same numbers.
abbrev pub IsOfItsVariables : Type 0
IsOfItsVariables =
    (a : AssertionTree) (s : State) (f g : Var → ℤ) → ((x : Var) → mentions a x ≡ true → f x ≡ g x) → value a (record s { at = f }) ≡ value a (record s { at = g })
