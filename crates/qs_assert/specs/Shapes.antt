-- How many parts follow a node, and which lists of nodes are those of terms.
use Rattle.std.specs.Prelude.{◌≢◌, ℕ, zero, suc, ◌+◌, Bool, true, false, List, [], ◌∷◌}
use Rattle.qs_assert.specs.declared.node.TermNode.{TermNode}
use Rattle.qs_assert.specs.declared.node.TermNode.TheVariants.{Number, Variable, Add, Sub, Mul, Div, WrapUnsigned, WrapSigned, Bits}
use Rattle.qs_assert.specs.declared.node.CondNode.{CondNode}
use Rattle.qs_assert.specs.declared.node.CondNode.TheVariants.{Le, Lt, Eq, Ne, Not, And, Or}
use Rattle.qs_assert.specs.declared.node.AssertionNode.{AssertionNode}
use Rattle.qs_assert.specs.declared.node.AssertionNode.TheVariants.{Natural, Infinity, Cost, Num, Total, Greatest, Product, Guard, If, Named}
use Rattle.qs_assert.specs.declared.node.Node.{Node}
use Rattle.qs_assert.specs.declared.node.Node.TheVariants.{Term, Condition, Assertion}
use Rattle.qs_assert.specs.Listing.{term_nodes}
use Rattle.qs_assert.specs.Trees.{TermTree}

-- ---- how many parts follow a node

abbrev pub term_arity : TermNode → ℕ
term_arity (Number k) = 0
term_arity (Variable x) = 0
term_arity (Add n) = n
term_arity Sub = 2
term_arity (Mul n) = n
term_arity (Div k) = 1
term_arity WrapUnsigned = 1
term_arity WrapSigned = 1
term_arity Bits = 1

abbrev pub cond_arity : CondNode → ℕ
cond_arity Le = 2
cond_arity Lt = 2
cond_arity Eq = 2
cond_arity Ne = 2
cond_arity Not = 1
cond_arity (And n) = n
cond_arity (Or n) = n

abbrev pub assertion_arity : AssertionNode → ℕ
assertion_arity (Natural n) = 0
assertion_arity Infinity = 0
assertion_arity (Cost f) = 0
assertion_arity Num = 1
assertion_arity (Total n) = n
assertion_arity (Greatest n) = n
assertion_arity (Product n) = n
assertion_arity Guard = 2
assertion_arity If = 3
assertion_arity (Named n) = 0

abbrev pub arity : Node → ℕ
arity (Term node) = term_arity node
arity (Condition node) = cond_arity node
arity (Assertion node) = assertion_arity node

-- ---- the nodes of terms

-- the nodes are those of so many terms, one after another
abbrev pub are_terms : List TermNode → ℕ → Bool
are_terms [] zero = true
are_terms [] (suc k) = false
are_terms (node ∷ nodes) zero = false
are_terms (node ∷ nodes) (suc k) = are_terms nodes (term_arity node + k)

-- no term has these nodes
abbrev pub AreOfNoTerm : List TermNode → Type 0
AreOfNoTerm nodes = (t : TermTree) → nodes ≢ term_nodes t
