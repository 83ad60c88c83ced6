-- An assertion is plain where all its nodes are.
use Rattle.std.proofs.Common.{◌≡◌, true, List, [], ◌∷◌, ◌++◌, map, refl, sym, ap, ◌∙◌}
use Rattle.std.specs.Prelude.{◌&&◌}
use Rattle.std.proofs.Math.Bool.{and_assoc}
use Rattle.qs_assert.specs.declared.node.TermNode.{TermNode}
use Rattle.qs_assert.specs.declared.node.Node.{Node}
use Rattle.qs_assert.specs.declared.node.Node.TheVariants.{Term}
use Rattle.qs_assert.specs.Trees.{AssertionTree, natural, infinity, cost, num, total, greatest, product, guard, choose, named, AssertionTrees, no_assertions, assertion_and}
use Rattle.qs_assert.specs.Listing.{term_nodes, assertion_nodes, assertions_nodes}
use Rattle.qs_entail.specs.Building.{is_plain, all_plain}
use Rattle.qs_entail.specs.Plain.{is_plain_node, all_plain_nodes}

plain-append : (xs ys : List Node) → all_plain_nodes (xs ++ ys) ≡ (all_plain_nodes xs && all_plain_nodes ys)
plain-append [] ys = refl
plain-append (x ∷ xs) ys =
    ap (λ b. is_plain_node x && b) (plain-append xs ys) ∙ sym (and_assoc (is_plain_node x) (all_plain_nodes xs) (all_plain_nodes ys))

inner_plain : (nodes : List TermNode) → all_plain_nodes (map Term nodes) ≡ true
inner_plain [] = refl
inner_plain (node ∷ nodes) = inner_plain nodes

mutual
  pub nodes_plain : (a : AssertionTree) → all_plain_nodes (assertion_nodes a) ≡ is_plain a
  nodes_plain (natural n) = refl
  nodes_plain infinity = refl
  nodes_plain (cost f) = refl
  nodes_plain (num t) = inner_plain (term_nodes t)
  nodes_plain (total parts) = parts_plain parts
  nodes_plain (greatest parts) = refl
  nodes_plain (product parts) = parts_plain parts
  nodes_plain (guard c a) = refl
  nodes_plain (choose c a b) = refl
  nodes_plain (named n) = refl

  parts_plain : (parts : AssertionTrees) → all_plain_nodes (assertions_nodes parts) ≡ all_plain parts
  parts_plain no_assertions = refl
  parts_plain (assertion_and a parts) =
      plain-append (assertion_nodes a) (assertions_nodes parts) ∙ (λ i. nodes_plain a i && parts_plain parts i)
