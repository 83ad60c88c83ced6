-- The trees in a list of nodes, each node before those of its parts.
use Rattle.std.specs.Prelude.{◌≡◌, ℕ, zero, suc, ◌+◌, Bool, false, List, [], ◌∷◌}
use Rattle.std.specs.Coded.{Coded, coded_list}
use Rattle.qs_assert.specs.declared.node.Node.{Node}
use Rattle.qs_assert.specs.Codes.{assertion_code}
use Rattle.qs_assert.specs.Reading.{plant_nodes, no_trees}
use Rattle.qs_assert.specs.Sameness.{same_node}
use Rattle.qs_assert.specs.Shapes.{arity}
use Rattle.qs_assert.specs.Listing.{assertions_nodes}
use Rattle.qs_assert.specs.Trees.{AssertionTree, AssertionTrees, assertion_list}

-- how many parts follow the first node
abbrev pub head_arity : List Node → ℕ
head_arity [] = 0
head_arity (node ∷ nodes) = arity node

-- how many nodes the first n trees have
abbrev pub front_length : List Node → ℕ → ℕ
front_length [] n = 0
front_length (node ∷ nodes) zero = 0
front_length (node ∷ nodes) (suc n) = suc (front_length nodes (n + arity node))

-- the node is the first
abbrev pub begins : List Node → Node → Bool
begins [] node = false
begins (head ∷ nodes) node = same_node head node

-- the assertions that these nodes have
abbrev pub assertions_in : List Node → List AssertionTree
assertions_in nodes = (plant_nodes nodes no_trees).assertions

-- a list of assertions is told from another by the codes of its items
abbrev pub assertions_code : Coded (List AssertionTree)
assertions_code = coded_list assertion_code

-- the answer is the list of the assertions that have these nodes
abbrev pub ListsAssertions : List Node → List AssertionTree → Type 0
ListsAssertions nodes result = (parts : AssertionTrees) → nodes ≡ assertions_nodes parts → result ≡ assertion_list parts
