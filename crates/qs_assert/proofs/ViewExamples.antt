-- The trees in a list of nodes, for the nodes of `(max 5 (num n)) inf`.
use Rattle.std.proofs.Common.{◌≡◌, true, false, List, [], ◌∷◌, ◌++◌, refl}
use Rattle.qs_assert.specs.declared.variable.VarKind.TheVariants.{Plain}
use Rattle.qs_assert.specs.declared.variable.NumberType.TheVariants.{Int}
use Rattle.qs_assert.specs.declared.node.AssertionNode.TheVariants.{Greatest, Total}
use Rattle.qs_assert.specs.declared.node.Node.{Node}
use Rattle.qs_assert.specs.declared.node.Node.TheVariants.{Assertion}
use Rattle.qs_assert.specs.Trees.{AssertionTree, variable, natural, infinity, num, greatest, assertions_of}
use Rattle.qs_assert.specs.Listing.{assertion_nodes}
use Rattle.qs_assert.specs.Views.{head_arity, front_length, begins, assertions_in}

abbrev larger : AssertionTree
larger = greatest (assertions_of (natural 5 ∷ num (variable (record { kind = Plain 0; number = Int })) ∷ []))

abbrev nodes : List Node
nodes = assertion_nodes larger ++ assertion_nodes infinity

two_parts : head_arity nodes ≡ 2
two_parts = refl

no_part : head_arity [] ≡ 0
no_part = refl

-- the head, 5, `num` and n
first_tree : front_length nodes 1 ≡ 4
first_tree = refl

both_trees : front_length nodes 2 ≡ 5
both_trees = refl

no_more_than_there_are : front_length nodes 3 ≡ 5
no_more_than_there_are = refl

its_head : begins nodes (Assertion (Greatest 2)) ≡ true
its_head = refl

another_count : begins nodes (Assertion (Greatest 3)) ≡ false
another_count = refl

another_head : begins nodes (Assertion (Total 2)) ≡ false
another_head = refl

its_trees : assertions_in nodes ≡ larger ∷ infinity ∷ []
its_trees = refl
