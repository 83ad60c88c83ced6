-- The assertions in a list of nodes.
use Rattle.std.specs.Prelude.{◌==◌, true, false}
use Rattle.std.proofs.Common.{◌≡◌, ◌<◌, ℕ, zero, suc, take, drop, refl, ap, ◌∙◌, sym, List, [], ◌∷◌, ◌++◌, length, append-nil, arith}
use Rattle.qs_assert.specs.declared.node.Node.{Node}
use Rattle.qs_assert.specs.Trees.{AssertionTree, AssertionTrees, no_assertions, assertion_and, assertion_list, assertions_of}
use Rattle.qs_assert.specs.Listing.{assertion_nodes, assertions_nodes}
use Rattle.qs_assert.specs.Reading.{Forest, no_trees, assertions_read, assertions_of-list}
use Rattle.qs_assert.specs.Views.{front_length, assertions_in}
use Rattle.qs_assert.proofs.FrontLaws.{assertion_front, first_is, others_are}

pub assertions_are : (nodes : List Node) (parts : AssertionTrees) → nodes ≡ assertions_nodes parts → assertions_in nodes ≡ assertion_list parts
assertions_are nodes parts e =
    ap assertions_in e ∙ (ap (λ (f : Forest). f.assertions) (assertions_read parts no_trees) ∙ append-nil (assertion_list parts))

pub assertions_kept : (nodes : List Node) (parts : AssertionTrees) → nodes ≡ assertions_nodes parts → nodes ≡ assertions_nodes (assertions_of (assertions_in nodes))
assertions_kept nodes parts e =
    e ∙ ap assertions_nodes (sym (ap assertions_of (assertions_are nodes parts e) ∙ assertions_of-list parts))

-- ---- the first assertion, and the others

not_zero : (n : ℕ) → (suc n == 0) ≡ false
not_zero n = grind arith

pub none_in : (nodes : List Node) → true ≡ (length nodes == 0) → assertions_in nodes ≡ []
none_in [] h = refl
none_in (node ∷ nodes) h = absurd (let k : true ≡ false = h ∙ not_zero (length nodes) in cc)

pub record Split (nodes : List Node) : Type 0 where
  pub first : AssertionTree
  pub left : AssertionTrees
  pub is : nodes ≡ assertion_nodes first ++ assertions_nodes left

not_empty : (n : ℕ) → false ≡ (n == 0) → 0 < n
not_empty zero h = absurd (cc)
not_empty (suc n) h = omega arith

parted : (nodes : List Node) (parts : AssertionTrees) → nodes ≡ assertions_nodes parts → 0 < length nodes → Split nodes
parted nodes no_assertions e h = absurd (omega (arith, ap length e))
parted nodes (assertion_and a parts) e h = record { first = a; left = parts; is = e }

pub split : (nodes : List Node) (parts : AssertionTrees) → nodes ≡ assertions_nodes parts → false ≡ (length nodes == 0) → Split nodes
split nodes parts e h = parted nodes parts e (not_empty (length nodes) h)

pub split_first : (nodes : List Node) (s : Split nodes) → take (front_length nodes 1) nodes ≡ assertion_nodes s.first
split_first nodes s = first_is (assertion_nodes s.first) (assertions_nodes s.left) nodes (assertion_front s.first) s.is

pub split_others : (nodes : List Node) (s : Split nodes) → drop (front_length nodes 1) nodes ≡ assertions_nodes s.left
split_others nodes s = others_are (assertion_nodes s.first) (assertions_nodes s.left) nodes (assertion_front s.first) s.is

pub split_all : (nodes : List Node) (s : Split nodes) → assertions_in nodes ≡ s.first ∷ assertion_list s.left
split_all nodes s = assertions_are nodes (assertion_and s.first s.left) s.is
