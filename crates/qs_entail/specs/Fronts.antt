-- What the nodes of assertions begin with.
use Rattle.std.specs.Prelude.{ℕ, suc, Bool, true, false, if◌then◌else◌, List, [], ◌∷◌, Option, Some, None}
use Rattle.qs_assert.specs.declared.node.AssertionNode.{AssertionNode}
use Rattle.qs_assert.specs.declared.node.AssertionNode.TheVariants.{Natural, Infinity, Cost, Num, Total, Greatest, Product, Guard, If, Named}
use Rattle.qs_assert.specs.declared.node.Node.{Node}
use Rattle.qs_assert.specs.declared.node.Node.TheVariants.{Term, Condition, Assertion}
use Rattle.qs_assert.specs.Views.{front_length}

-- the head is that of a greatest assertion
abbrev pub is_greatest : List Node → Bool
is_greatest [] = false
is_greatest (Assertion (Greatest n) ∷ nodes) = true
is_greatest (_ ∷ nodes) = false

-- the head is that of a sum of assertions
abbrev pub is_total : List Node → Bool
is_total [] = false
is_total (Assertion (Total n) ∷ nodes) = true
is_total (_ ∷ nodes) = false

-- how many members the assertion has of which it is the greatest
abbrev pub greatest_count : List Node → Option ℕ
greatest_count [] = None
greatest_count (Assertion (Greatest n) ∷ nodes) = Some n
greatest_count (_ ∷ nodes) = None

-- how many summands the assertion has
abbrev pub total_count : List Node → Option ℕ
total_count [] = None
total_count (Assertion (Total n) ∷ nodes) = Some n
total_count (_ ∷ nodes) = None

-- ---- the first assertion: its head with a term or condition, and then parts that are assertions

-- a term or a condition follows the head
abbrev pub has_inner : AssertionNode → Bool
has_inner (Natural n) = false
has_inner Infinity = false
has_inner (Cost f) = false
has_inner Num = true
has_inner (Total n) = false
has_inner (Greatest n) = false
has_inner (Product n) = false
has_inner Guard = true
has_inner If = true
has_inner (Named n) = false

abbrev pub parts_after : AssertionNode → ℕ
parts_after (Natural n) = 0
parts_after Infinity = 0
parts_after (Cost f) = 0
parts_after Num = 0
parts_after (Total n) = n
parts_after (Greatest n) = n
parts_after (Product n) = n
parts_after Guard = 1
parts_after If = 2
parts_after (Named n) = 0

-- the length of the head with its term or condition
abbrev pub own_length : List Node → ℕ
own_length [] = 0
own_length (Term node ∷ nodes) = 1
own_length (Condition node ∷ nodes) = 1
own_length (Assertion node ∷ nodes) = if has_inner node then suc (front_length nodes 1) else 1

-- how many parts are assertions
abbrev pub part_count : List Node → ℕ
part_count [] = 0
part_count (Term node ∷ nodes) = 0
part_count (Condition node ∷ nodes) = 0
part_count (Assertion node ∷ nodes) = parts_after node
