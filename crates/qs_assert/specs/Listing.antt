-- The nodes of a tree in one list, each before those of its parts.
use Rattle.std.specs.Prelude.{List, [], ◌∷◌, ◌++◌, length, map}
use Rattle.qs_assert.specs.declared.node.TermNode.{TermNode}
use Rattle.qs_assert.specs.declared.node.TermNode.TheVariants.{Number, Variable, Add, Sub, Mul, Div, WrapUnsigned, WrapSigned, Bits}
use Rattle.qs_assert.specs.declared.node.CondNode.TheVariants.{Le, Lt, Eq, Ne, Not, And, Or}
use Rattle.qs_assert.specs.declared.node.AssertionNode.TheVariants.{Natural, Infinity, Cost, Num, Total, Greatest, Product, Guard, If, Named}
use Rattle.qs_assert.specs.declared.node.Node.{Node}
use Rattle.qs_assert.specs.declared.node.Node.TheVariants.{Term, Condition, Assertion}
use Rattle.qs_assert.specs.Trees.{TermTree, number, variable, add, sub, mul, div, wrapu, wraps, bits, TermTrees, no_terms, term_and, CondTree, le, lt, eq, ne, not, and, or, CondTrees, no_conds, cond_and, AssertionTree, natural, infinity, cost, num, total, greatest, product, guard, choose, named, AssertionTrees, no_assertions, assertion_and, term_list, cond_list, assertion_list}

abbrev mutual
  pub term_nodes : TermTree → List TermNode
  term_nodes (number k) = Number k ∷ []
  term_nodes (variable x) = Variable x ∷ []
  term_nodes (add ts) = Add (length (term_list ts)) ∷ terms_nodes ts
  term_nodes (sub t u) = Sub ∷ term_nodes t ++ term_nodes u
  term_nodes (mul ts) = Mul (length (term_list ts)) ∷ terms_nodes ts
  term_nodes (div t k) = Div k ∷ term_nodes t
  term_nodes (wrapu t) = WrapUnsigned ∷ term_nodes t
  term_nodes (wraps t) = WrapSigned ∷ term_nodes t
  term_nodes (bits t) = Bits ∷ term_nodes t

  pub terms_nodes : TermTrees → List TermNode
  terms_nodes no_terms = []
  terms_nodes (term_and t ts) = term_nodes t ++ terms_nodes ts

-- the nodes of a term among those of a condition or an assertion
abbrev pub inner_term : TermTree → List Node
inner_term t = map Term (term_nodes t)

-- the nodes of terms among these
abbrev pub term_heads : List Node → List TermNode
term_heads [] = []
term_heads (Term node ∷ nodes) = node ∷ term_heads nodes
term_heads (Condition node ∷ nodes) = term_heads nodes
term_heads (Assertion node ∷ nodes) = term_heads nodes

abbrev mutual
  pub cond_nodes : CondTree → List Node
  cond_nodes (le t u) = Condition Le ∷ inner_term t ++ inner_term u
  cond_nodes (lt t u) = Condition Lt ∷ inner_term t ++ inner_term u
  cond_nodes (eq t u) = Condition Eq ∷ inner_term t ++ inner_term u
  cond_nodes (ne t u) = Condition Ne ∷ inner_term t ++ inner_term u
  cond_nodes (not c) = Condition Not ∷ cond_nodes c
  cond_nodes (and cs) = Condition (And (length (cond_list cs))) ∷ conds_nodes cs
  cond_nodes (or cs) = Condition (Or (length (cond_list cs))) ∷ conds_nodes cs

  pub conds_nodes : CondTrees → List Node
  conds_nodes no_conds = []
  conds_nodes (cond_and c cs) = cond_nodes c ++ conds_nodes cs

abbrev mutual
  pub assertion_nodes : AssertionTree → List Node
  assertion_nodes (natural n) = Assertion (Natural n) ∷ []
  assertion_nodes infinity = Assertion Infinity ∷ []
  assertion_nodes (cost f) = Assertion (Cost (record { 0 = f })) ∷ []
  assertion_nodes (num t) = Assertion Num ∷ inner_term t
  assertion_nodes (total parts) = Assertion (Total (length (assertion_list parts))) ∷ assertions_nodes parts
  assertion_nodes (greatest parts) = Assertion (Greatest (length (assertion_list parts))) ∷ assertions_nodes parts
  assertion_nodes (product parts) = Assertion (Product (length (assertion_list parts))) ∷ assertions_nodes parts
  assertion_nodes (guard c a) = Assertion Guard ∷ cond_nodes c ++ assertion_nodes a
  assertion_nodes (choose c a b) = Assertion If ∷ cond_nodes c ++ (assertion_nodes a ++ assertion_nodes b)
  assertion_nodes (named n) = Assertion (Named n) ∷ []

  pub assertions_nodes : AssertionTrees → List Node
  assertions_nodes no_assertions = []
  assertions_nodes (assertion_and a parts) = assertion_nodes a ++ assertions_nodes parts
