-- Which nodes an assertion that is plain has.
use Rattle.std.specs.Prelude.{Bool, true, false, ◌&&◌, List, [], ◌∷◌}
use Rattle.qs_assert.specs.declared.node.AssertionNode.{AssertionNode}
use Rattle.qs_assert.specs.declared.node.AssertionNode.TheVariants.{Natural, Infinity, Cost, Num, Total, Greatest, Product, Guard, If, Named}
use Rattle.qs_assert.specs.declared.node.Node.{Node}
use Rattle.qs_assert.specs.declared.node.Node.TheVariants.{Term, Condition, Assertion}

abbrev pub is_plain_head : AssertionNode → Bool
is_plain_head (Natural n) = true
is_plain_head Infinity = false
is_plain_head (Cost f) = true
is_plain_head Num = true
is_plain_head (Total n) = true
is_plain_head (Greatest n) = false
is_plain_head (Product n) = true
is_plain_head Guard = false
is_plain_head If = false
is_plain_head (Named n) = false

-- a condition stands only below a guard or a choice
abbrev pub is_plain_node : Node → Bool
is_plain_node (Term node) = true
is_plain_node (Condition node) = true
is_plain_node (Assertion node) = is_plain_head node

abbrev pub all_plain_nodes : List Node → Bool
all_plain_nodes [] = true
all_plain_nodes (node ∷ nodes) = is_plain_node node && all_plain_nodes nodes
