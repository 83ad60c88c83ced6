-- The nodes of an assertion in which a name is replaced by a body.
use Rattle.std.proofs.Common.{◌≡◌, ◌≤◌, ℕ, suc, drop, refl, ap, ◌∙◌, sym, Bool, true, false, List, [], ◌∷◌, ◌++◌, length, map, append_assoc, append-nil}
use Rattle.std.specs.Prelude.{if◌then◌else◌}
use Rattle.std.proofs.Math.ListN.{drop_of_length-le}
use Rattle.qs_assert.specs.declared.node.TermNode.{TermNode}
use Rattle.qs_assert.specs.declared.node.CondNode.TheVariants.{Le, Lt, Eq, Ne, Not, And, Or}
use Rattle.qs_assert.specs.declared.node.AssertionNode.TheVariants.{Num, Total, Greatest, Product, Guard, If, Named}
use Rattle.qs_assert.specs.declared.node.Node.{Node}
use Rattle.qs_assert.specs.declared.node.Node.TheVariants.{Term, Condition, Assertion}
use Rattle.qs_assert.specs.Bounds.{same_name}
use Rattle.qs_assert.specs.Trees.{TermTree, CondTree, le, lt, eq, ne, not, and, or, CondTrees, no_conds, cond_and, AssertionTree, natural, infinity, cost, num, total, greatest, product, guard, choose, named, AssertionTrees, no_assertions, assertion_and, cond_list, assertion_list}
use Rattle.qs_assert.specs.Listing.{term_nodes, inner_term, cond_nodes, conds_nodes, assertion_nodes, assertions_nodes}
use Rattle.qs_entail.specs.Faults.{unfolded, all_unfolded}
use Rattle.qs_entail.specs.Placing.{placed}

abbrev pub all_placed : List ℕ → AssertionTree → List Node → List Node
all_placed n body [] = []
all_placed n body (node ∷ nodes) = placed n body node ++ all_placed n body nodes

placed-append : (n : List ℕ) (body : AssertionTree) (xs ys : List Node) → all_placed n body (xs ++ ys) ≡ all_placed n body xs ++ all_placed n body ys
placed-append n body [] ys = refl
placed-append n body (x ∷ xs) ys =
    ap (λ (l : List Node). placed n body x ++ l) (placed-append n body xs ys) ∙ sym (append_assoc (placed n body x) (all_placed n body xs) (all_placed n body ys))

split : (n : List ℕ) (body : AssertionTree) (a b a' b' : List Node) → all_placed n body a ≡ a' → all_placed n body b ≡ b' → all_placed n body (a ++ b) ≡ a' ++ b'
split n body a b a' b' p q = placed-append n body a b ∙ (λ i. p i ++ q i)

heads_placed : (n : List ℕ) (body : AssertionTree) (nodes : List TermNode) → all_placed n body (map Term nodes) ≡ map Term nodes
heads_placed n body [] = refl
heads_placed n body (node ∷ nodes) = ap (λ (l : List Node). Term node ∷ l) (heads_placed n body nodes)

term_placed : (n : List ℕ) (body : AssertionTree) (t : TermTree) → all_placed n body (inner_term t) ≡ inner_term t
term_placed n body t = heads_placed n body (term_nodes t)

mutual
  cond_placed : (n : List ℕ) (body : AssertionTree) (c : CondTree) → all_placed n body (cond_nodes c) ≡ cond_nodes c
  cond_placed n body (le t u) = ap (λ (l : List Node). Condition Le ∷ l) (split n body _ _ _ _ (term_placed n body t) (term_placed n body u))
  cond_placed n body (lt t u) = ap (λ (l : List Node). Condition Lt ∷ l) (split n body _ _ _ _ (term_placed n body t) (term_placed n body u))
  cond_placed n body (eq t u) = ap (λ (l : List Node). Condition Eq ∷ l) (split n body _ _ _ _ (term_placed n body t) (term_placed n body u))
  cond_placed n body (ne t u) = ap (λ (l : List Node). Condition Ne ∷ l) (split n body _ _ _ _ (term_placed n body t) (term_placed n body u))
  cond_placed n body (not c) = ap (λ (l : List Node). Condition Not ∷ l) (cond_placed n body c)
  cond_placed n body (and cs) = ap (λ (l : List Node). Condition (And (length (cond_list cs))) ∷ l) (conds_placed n body cs)
  cond_placed n body (or cs) = ap (λ (l : List Node). Condition (Or (length (cond_list cs))) ∷ l) (conds_placed n body cs)

  conds_placed : (n : List ℕ) (body : AssertionTree) (cs : CondTrees) → all_placed n body (conds_nodes cs) ≡ conds_nodes cs
  conds_placed n body no_conds = refl
  conds_placed n body (cond_and c cs) = split n body _ _ _ _ (cond_placed n body c) (conds_placed n body cs)

same_count : (n : List ℕ) (body : AssertionTree) (parts : AssertionTrees) → length (assertion_list (all_unfolded n body parts)) ≡ length (assertion_list parts)
same_count n body no_assertions = refl
same_count n body (assertion_and a parts) = ap suc (same_count n body parts)

name_placed : (b : Bool) (body : AssertionTree) (m : List ℕ) → (if b then assertion_nodes body else (Assertion (Named m) ∷ [])) ++ [] ≡ assertion_nodes (if b then body else named m)
name_placed true body m = append-nil (assertion_nodes body)
name_placed false body m = refl

mutual
  assertion_is : (n : List ℕ) (body a : AssertionTree) → all_placed n body (assertion_nodes a) ≡ assertion_nodes (unfolded n body a)
  assertion_is n body (natural k) = refl
  assertion_is n body infinity = refl
  assertion_is n body (cost f) = refl
  assertion_is n body (num t) = ap (λ (l : List Node). Assertion Num ∷ l) (term_placed n body t)
  assertion_is n body (total parts) =
      λ i. Assertion (Total (sym (same_count n body parts) i)) ∷ assertions_are n body parts i
  assertion_is n body (greatest parts) =
      λ i. Assertion (Greatest (sym (same_count n body parts) i)) ∷ assertions_are n body parts i
  assertion_is n body (product parts) =
      λ i. Assertion (Product (sym (same_count n body parts) i)) ∷ assertions_are n body parts i
  assertion_is n body (guard c a) =
      ap (λ (l : List Node). Assertion Guard ∷ l) (split n body _ _ _ _ (cond_placed n body c) (assertion_is n body a))
  assertion_is n body (choose c a b) =
      ap (λ (l : List Node). Assertion If ∷ l) (split n body _ _ _ _ (cond_placed n body c) (split n body _ _ _ _ (assertion_is n body a) (assertion_is n body b)))
  assertion_is n body (named m) = name_placed (same_name n m) body m

  assertions_are : (n : List ℕ) (body : AssertionTree) (parts : AssertionTrees) → all_placed n body (assertions_nodes parts) ≡ assertions_nodes (all_unfolded n body parts)
  assertions_are n body no_assertions = refl
  assertions_are n body (assertion_and a parts) =
      split n body _ _ _ _ (assertion_is n body a) (assertions_are n body parts)

-- the list that the loop made, at its end
pub placed_all : (n : List ℕ) (body a : AssertionTree) (nodes list : List Node) (i : ℕ) → length list ≤ i → list ≡ assertion_nodes a → nodes ++ all_placed n body (drop i list) ≡ all_placed n body list → nodes ≡ assertion_nodes (unfolded n body a)
placed_all n body a nodes list i h e inv =
    sym (append-nil nodes) ∙ (ap (λ (l : List Node). nodes ++ all_placed n body l) (sym (drop_of_length-le list h)) ∙ (inv ∙ (ap (all_placed n body) e ∙ assertion_is n body a)))
