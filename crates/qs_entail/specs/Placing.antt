-- What stands for a node where a name is replaced by a body.
use Rattle.std.specs.Prelude.{ℕ, if◌then◌else◌, List, [], ◌∷◌}
use Rattle.qs_assert.specs.declared.node.AssertionNode.{AssertionNode}
use Rattle.qs_assert.specs.declared.node.AssertionNode.TheVariants.{Natural, Infinity, Cost, Num, Total, Greatest, Product, Guard, If, Named}
use Rattle.qs_assert.specs.declared.node.Node.{Node}
use Rattle.qs_assert.specs.declared.node.Node.TheVariants.{Term, Condition, Assertion}
use Rattle.qs_assert.specs.Bounds.{same_name}
use Rattle.qs_assert.specs.Listing.{assertion_nodes}
use Rattle.qs_assert.specs.Trees.{AssertionTree}

abbrev pub assertion_placed : List ℕ → AssertionTree → AssertionNode → List Node
assertion_placed n body (Natural k) = Assertion (Natural k) ∷ []
assertion_placed n body Infinity = Assertion Infinity ∷ []
assertion_placed n body (Cost f) = Assertion (Cost f) ∷ []
assertion_placed n body Num = Assertion Num ∷ []
assertion_placed n body (Total k) = Assertion (Total k) ∷ []
assertion_placed n body (Greatest k) = Assertion (Greatest k) ∷ []
assertion_placed n body (Product k) = Assertion (Product k) ∷ []
assertion_placed n body Guard = Assertion Guard ∷ []
assertion_placed n body If = Assertion If ∷ []
assertion_placed n body (Named m) = if same_name n m then assertion_nodes body else (Assertion (Named m) ∷ [])

abbrev pub placed : List ℕ → AssertionTree → Node → List Node
placed n body (Term node) = Term node ∷ []
placed n body (Condition node) = Condition node ∷ []
placed n body (Assertion node) = assertion_placed n body node
