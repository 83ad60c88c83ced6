-- What is copied of an assertion, and which of its parts are kept, where conditionals on a condition are
-- replaced by a branch.
use Rattle.std.specs.Prelude.{◌≡◌, Bool, true, if◌then◌else◌, ◌&&◌, List, [], ◌∷◌, ◌++◌, take, replicate, reverse, Result, OnOk}
use Rattle.std.specs.Prelude.{not as flip}
use Rattle.qs_assert.specs.declared.node.AssertionNode.TheVariants.{If}
use Rattle.qs_assert.specs.declared.node.Node.{Node}
use Rattle.qs_assert.specs.declared.node.Node.TheVariants.{Assertion}
use Rattle.qs_base.specs.declared.memory.NoMemory.{NoMemory}
use Rattle.qs_assert.specs.Listing.{cond_nodes}
use Rattle.qs_assert.specs.Reading.{others}
use Rattle.qs_assert.specs.Sameness.{all_same, same_node}
use Rattle.qs_assert.specs.Trees.{CondTree}
use Rattle.qs_assert.specs.Views.{front_length, begins}
use Rattle.qs_entail.specs.Fronts.{own_length, part_count}

-- the first assertion is a conditional on the condition with the nodes b
abbrev pub chooses : List Node → List Node → Bool
chooses b nodes = begins nodes (Assertion If) && all_same same_node b (take (front_length (others nodes) 1) (others nodes))

abbrev pub copied : List Node → List Node → List Node
copied b nodes = if chooses b nodes then [] else take (own_length nodes) nodes

abbrev pub kept : List Node → Bool → List Node → List Bool
kept b first nodes = if chooses b nodes then first ∷ (flip first ∷ []) else replicate (part_count nodes) true

-- what is copied is put behind the nodes, if memory suffices
abbrev pub PutsCopied : CondTree → List Node → (old new : List Node) → Result (Unit {0}) NoMemory → Type 0
PutsCopied b nodes old new result = OnOk result (new ≡ old ++ copied (cond_nodes b) nodes)

-- which parts are kept is put on the stack, whose front is its end
abbrev pub PutsKept : CondTree → Bool → List Node → (old new : List Bool) → Result (Unit {0}) NoMemory → Type 0
PutsKept b first nodes old new result = OnOk result (reverse new ≡ kept (cond_nodes b) first nodes ++ reverse old)
