-- The test whether two trees are the same: whether their nodes are.
use Rattle.std.specs.Prelude.{◌==◌, ◌&&◌, Bool, true, false, List, [], ◌∷◌}
use Rattle.std.specs.Ordering.{int_eq}
use Rattle.qs_assert.specs.declared.node.TermNode.{TermNode}
use Rattle.qs_assert.specs.declared.node.TermNode.TheVariants.{Number, Variable, Add, Sub, Mul, Div, WrapUnsigned, WrapSigned, Bits}
use Rattle.qs_assert.specs.declared.node.CondNode.{CondNode}
use Rattle.qs_assert.specs.declared.node.CondNode.TheVariants.{Le, Lt, Eq, Ne, Not, And, Or}
use Rattle.qs_assert.specs.declared.node.AssertionNode.{AssertionNode}
use Rattle.qs_assert.specs.declared.node.AssertionNode.TheVariants.{Natural, Infinity, Cost, Num, Total, Greatest, Product, Guard, If, Named}
use Rattle.qs_assert.specs.declared.node.Node.{Node}
use Rattle.qs_assert.specs.declared.node.Node.TheVariants.{Term, Condition, Assertion}
use Rattle.qs_assert.specs.Trees.{TermTree, CondTree, AssertionTree}
use Rattle.qs_assert.specs.Listing.{term_nodes, cond_nodes, assertion_nodes}
use Rattle.qs_assert.specs.Substitution.{same_variable}
use Rattle.qs_assert.specs.Bounds.{same_name}

abbrev pub same_term_node : TermNode → TermNode → Bool
same_term_node (Number k) (Number m) = int_eq k m
same_term_node (Variable x) (Variable y) = same_variable x y
same_term_node (Add n) (Add m) = n == m
same_term_node Sub Sub = true
same_term_node (Mul n) (Mul m) = n == m
same_term_node (Div k) (Div m) = k == m
same_term_node WrapUnsigned WrapUnsigned = true
same_term_node WrapSigned WrapSigned = true
same_term_node Bits Bits = true
same_term_node _ _ = false

abbrev pub same_cond_node : CondNode → CondNode → Bool
same_cond_node Le Le = true
same_cond_node Lt Lt = true
same_cond_node Eq Eq = true
same_cond_node Ne Ne = true
same_cond_node Not Not = true
same_cond_node (And n) (And m) = n == m
same_cond_node (Or n) (Or m) = n == m
same_cond_node _ _ = false

abbrev pub same_assertion_node : AssertionNode → AssertionNode → Bool
same_assertion_node (Natural n) (Natural m) = n == m
same_assertion_node Infinity Infinity = true
same_assertion_node (Cost f) (Cost g) = f.0 == g.0
same_assertion_node Num Num = true
same_assertion_node (Total n) (Total m) = n == m
same_assertion_node (Greatest n) (Greatest m) = n == m
same_assertion_node (Product n) (Product m) = n == m
same_assertion_node Guard Guard = true
same_assertion_node If If = true
same_assertion_node (Named n) (Named m) = same_name n m
same_assertion_node _ _ = false

abbrev pub same_node : Node → Node → Bool
same_node (Term a) (Term b) = same_term_node a b
same_node (Condition a) (Condition b) = same_cond_node a b
same_node (Assertion a) (Assertion b) = same_assertion_node a b
same_node _ _ = false

abbrev pub all_same : {A : Type 0} → (A → A → Bool) → List A → List A → Bool
all_same test [] [] = true
all_same test (x ∷ xs) (y ∷ ys) = test x y && all_same test xs ys
all_same test [] (y ∷ ys) = false
all_same test (x ∷ xs) [] = false

abbrev pub same_term : TermTree → TermTree → Bool
same_term t u = all_same same_term_node (term_nodes t) (term_nodes u)

abbrev pub same_cond : CondTree → CondTree → Bool
same_cond c d = all_same same_node (cond_nodes c) (cond_nodes d)

abbrev pub same_assertion : AssertionTree → AssertionTree → Bool
same_assertion a b = all_same same_node (assertion_nodes a) (assertion_nodes b)
