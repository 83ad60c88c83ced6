-- What a switch needs, as the code finds it.
use Rattle.std.specs.Prelude.{ℕ, Bool, true, List, [], ◌∷◌, ◌++◌, reverse}
use Rattle.qs_memory.specs.declared.scalar.Scalar.{Scalar}
use Rattle.qs_assert.specs.declared.node.AssertionNode.TheVariants as heads
use Rattle.qs_assert.specs.declared.node.Node.{Node}
use Rattle.qs_assert.specs.declared.node.Node.TheVariants as nodes
use Rattle.qs_assert.specs.Listing.{cond_nodes, assertion_nodes}
use Rattle.qs_assert.specs.Sameness.{same_assertion}
use Rattle.qs_assert.specs.Trees.{TermTree, number, eq, AssertionTree, assertion_list}
use Rattle.qs_core.specs.declared.labels.CoreLabel.{CoreLabel}
use Rattle.qs_core.specs.declared.labels.CoreLabel.TheVariants.{Case, Default}
use Rattle.qs_core.specs.Terms.{literal_value}
use Rattle.qs_core.specs.TreeOf.{core_expr}
use Rattle.qs_triples.specs.Rules.{before_part, at_cases, switched}
use Rattle.qs_triples.specs.declared.forms.Cases.{Cases}
use Rattle.qs_triples.specs.declared.switches.Before.{Before}

abbrev pub before_view : Before → (part : ℕ) → AssertionTree
before_view b part = before_part b.next.now (reverse b.parts.now) part

-- what a case puts in front of what the labels behind it need
abbrev pub case_nodes : (before : ℕ → AssertionTree) → Scalar → TermTree → CoreLabel → List Node
case_nodes before s t (Case n part) =
    nodes.Assertion heads.If ∷ cond_nodes (eq t (number (literal_value s n))) ++ assertion_nodes (before part)
case_nodes before s t (Default part) = []

-- a label of its own: whether d is needed there, and what is, if it is a case
abbrev pub label_needs : (d : AssertionTree) → (before : ℕ → AssertionTree) → CoreLabel → Bool
label_needs d before (Case n part) = same_assertion (before part) d
label_needs d before (Default part) = true

abbrev pub case_need : (before : ℕ → AssertionTree) → CoreLabel → List AssertionTree
case_need before (Case n part) = before part ∷ []
case_need before (Default part) = []

abbrev pub at_cases_view : (d : AssertionTree) → (before : ℕ → AssertionTree) → List CoreLabel → List AssertionTree
at_cases_view d before labels = assertion_list (at_cases d before labels)

-- what must be free before parts comes the last one first
abbrev pub switched_view : Cases → (next : AssertionTree) → (before : List AssertionTree) → AssertionTree
switched_view c next before = switched next (before_part next (reverse before)) (core_expr c.operand.now) c.labels.now
