-- The state of an evaluation.
use Rattle.std.specs.Prelude.{◌≡◌, ℕ, ℤ, List, reverse, slice_index_or, Option, Some, None, Result, IfOk}
use Rattle.std.specs.Map.{lookup}
use Rattle.qs_base.specs.declared.memory.NoMemory.{NoMemory}
use Rattle.qs_assert.specs.declared.define.Amount.{Amount}
use Rattle.qs_assert.specs.declared.define.Amount.TheVariants.{Infinite}
use Rattle.qs_assert.specs.declared.evaluation.Evaluation.{Evaluation}
use Rattle.qs_assert.specs.declared.node.AssertionNode.{AssertionNode}
use Rattle.qs_assert.specs.declared.node.Node.{Node}
use Rattle.qs_assert.specs.Bounds.{same_name, arguments}
use Rattle.qs_assert.specs.Stacks.{Stacks, Meaning, first_amount, step_assertion, step_node, steps}

-- the stacks of an evaluation, the front being the end
abbrev pub seen : Evaluation → Stacks
seen e = record { numbers = reverse e.numbers.items; tests = reverse e.tests.items; amounts = reverse e.amounts.items }

-- the amounts of names
abbrev pub Amounts : Type 0
Amounts = List (List ℕ × Amount)

abbrev pub or_infinity : Option Amount → Amount
or_infinity (Some amount) = amount
or_infinity None = Infinite

-- the amount of the name, and infinity where it has none
abbrev pub found : Amounts → List ℕ → Amount
found known n = or_infinity (lookup (same_name n) known)

-- what the nodes without parts mean at these arguments, costs and values of the definitions
abbrev pub meaning : List ℤ → List ℕ → Amounts → Meaning
meaning args costs known = record {
  at = arguments args;
  costs = λ f. slice_index_or costs f 0;
  names = found known;
}

-- the amount of the assertion with these nodes
abbrev pub nodes_amount : List ℤ → List ℕ → Amounts → List Node → Amount
nodes_amount args costs known nodes = first_amount (steps (meaning args costs known) nodes).amounts

-- ---- what the evaluation does, if memory suffices

abbrev pub Steps : (Stacks → Stacks) → (old new : Evaluation) → Result (Unit {0}) NoMemory → Type 0
Steps f old new result = IfOk result (λ _. seen new ≡ f (seen old))

-- the head of an assertion, whatever the arguments
abbrev pub StepsHead : List ℕ → Amounts → AssertionNode → (old new : Evaluation) → Result (Unit {0}) NoMemory → Type 0
StepsHead costs known node old new result =
    IfOk result (λ _. (args : List ℤ) → seen new ≡ step_assertion (meaning args costs known) node (seen old))

abbrev pub StepsNode : List ℤ → List ℕ → Amounts → Node → (old new : Evaluation) → Result (Unit {0}) NoMemory → Type 0
StepsNode args costs known node old new result = Steps (step_node (meaning args costs known) node) old new result
