-- Definitions in order: each mentions only names that are defined earlier.
use Rattle.std.specs.Prelude.{◌≡◌, ℕ, Bool, true, ◌&&◌, if◌then◌else◌, List, [], ◌∷◌, ◌++◌, length, Option, Some, None}
use Rattle.std.specs.List.{list_any}
use Rattle.qs_assert.specs.declared.define.Define.{Define}
use Rattle.qs_assert.specs.declared.node.AssertionNode.{AssertionNode}
use Rattle.qs_assert.specs.declared.node.AssertionNode.TheVariants.{Natural, Infinity, Cost, Num, Total, Greatest, Product, Guard, If, Named}
use Rattle.qs_assert.specs.declared.node.Node.{Node}
use Rattle.qs_assert.specs.declared.node.Node.TheVariants.{Term, Condition, Assertion}
use Rattle.qs_assert.specs.Bounds.{same_name}
use Rattle.qs_assert.specs.Trees.{AssertionTree, natural, infinity, cost, num, total, greatest, product, guard, choose, named, AssertionTrees, no_assertions, assertion_and}

-- each name in an assertion is among those that are known
abbrev mutual
  pub names_known : AssertionTree → (List ℕ → Bool) → Bool
  names_known (natural n) known = true
  names_known infinity known = true
  names_known (cost f) known = true
  names_known (num t) known = true
  names_known (total parts) known = all_names_known parts known
  names_known (greatest parts) known = all_names_known parts known
  names_known (product parts) known = all_names_known parts known
  names_known (guard c a) known = names_known a known
  names_known (choose c a b) known = names_known a known && names_known b known
  names_known (named n) known = known n

  pub all_names_known : AssertionTrees → (List ℕ → Bool) → Bool
  all_names_known no_assertions known = true
  all_names_known (assertion_and a parts) known = names_known a known && all_names_known parts known

-- the name is defined among these
abbrev pub is_among : List Define → List ℕ → Bool
is_among ds n = list_any (λ (d : Define). same_name n d.name) ds

-- the number of the first definition that mentions a name that isn't defined earlier, behind these
abbrev pub order_fault_behind : List Define → List Define → Option ℕ
order_fault_behind [] earlier = None
order_fault_behind (d ∷ ds) earlier =
    if names_known d.body (is_among earlier) then order_fault_behind ds (earlier ++ d ∷ []) else Some (length earlier)

-- the number of the first definition that mentions a name that isn't defined earlier
abbrev pub order_fault : List Define → Option ℕ
order_fault ds = order_fault_behind ds []

abbrev pub IsInOrder : List Define → Type 0
IsInOrder ds = order_fault ds ≡ None

-- ---- nodes

abbrev pub head_known : (List ℕ → Bool) → AssertionNode → Bool
head_known known (Natural n) = true
head_known known Infinity = true
head_known known (Cost f) = true
head_known known Num = true
head_known known (Total n) = true
head_known known (Greatest n) = true
head_known known (Product n) = true
head_known known Guard = true
head_known known If = true
head_known known (Named n) = known n

-- the node isn't a name, or one that is known
abbrev pub node_known : (List ℕ → Bool) → Node → Bool
node_known known (Term node) = true
node_known known (Condition node) = true
node_known known (Assertion node) = head_known known node
