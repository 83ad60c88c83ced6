-- The nodes of a tree in which variables are replaced: the replacements of its nodes.
use Rattle.std.proofs.Common.{◌≡◌, ◌≤◌, ℕ, suc, drop, refl, ap, ◌∙◌, sym, List, [], ◌∷◌, ◌++◌, length, map, append_assoc, append-nil}
use Rattle.std.proofs.Math.ListN.{drop_of_length-le}
use Rattle.std.proofs.lemmas.List.{map-append}
use Rattle.qs_assert.specs.declared.node.TermNode.{TermNode}
use Rattle.qs_assert.specs.declared.node.TermNode.TheVariants.{Add, Sub, Mul, Div, WrapUnsigned, WrapSigned, Bits}
use Rattle.qs_assert.specs.declared.node.CondNode.TheVariants.{Le, Lt, Eq, Ne, Not, And, Or}
use Rattle.qs_assert.specs.declared.node.AssertionNode.TheVariants.{Num, Total, Greatest, Product, Guard, If}
use Rattle.qs_assert.specs.declared.node.Node.{Node}
use Rattle.qs_assert.specs.declared.node.Node.TheVariants.{Term, Condition, Assertion}
use Rattle.qs_assert.specs.Trees.{TermTree, number, variable, add, sub, mul, div, wrapu, wraps, bits, TermTrees, no_terms, term_and, CondTree, le, lt, eq, ne, not, and, or, CondTrees, no_conds, cond_and, AssertionTree, natural, infinity, cost, num, total, greatest, product, guard, choose, named, AssertionTrees, no_assertions, assertion_and, term_list, cond_list, assertion_list}
use Rattle.qs_assert.specs.Listing.{terms_nodes, inner_term, cond_nodes, conds_nodes, assertion_nodes, assertions_nodes}
use Rattle.qs_assert.specs.Images.{Images, term_image, terms_image, cond_image, conds_image, assertion_image, assertions_image}
use Rattle.qs_assert.specs.Replacing.{replacement}

abbrev pub replaced : Images → List Node → List Node
replaced m [] = []
replaced m (node ∷ nodes) = replacement m node ++ replaced m nodes

pub replaced-append : (m : Images) (xs ys : List Node) → replaced m (xs ++ ys) ≡ replaced m xs ++ replaced m ys
replaced-append m [] ys = refl
replaced-append m (n ∷ xs) ys =
    ap (λ (l : List Node). replacement m n ++ l) (replaced-append m xs ys) ∙ sym (append_assoc (replacement m n) (replaced m xs) (replaced m ys))

same_count_terms : (m : Images) (ts : TermTrees) → length (term_list (terms_image m ts)) ≡ length (term_list ts)
same_count_terms m no_terms = refl
same_count_terms m (term_and t ts) = ap (suc) (same_count_terms m ts)

same_count_conds : (m : Images) (cs : CondTrees) → length (cond_list (conds_image m cs)) ≡ length (cond_list cs)
same_count_conds m no_conds = refl
same_count_conds m (cond_and c cs) = ap (suc) (same_count_conds m cs)

same_count : (m : Images) (parts : AssertionTrees) → length (assertion_list (assertions_image m parts)) ≡ length (assertion_list parts)
same_count m no_assertions = refl
same_count m (assertion_and a parts) = ap (suc) (same_count m parts)

split : (m : Images) (a b a' b' : List Node) → replaced m a ≡ a' → replaced m b ≡ b' → replaced m (a ++ b) ≡ a' ++ b'
split m a b a' b' p q = replaced-append m a b ∙ (λ i. p i ++ q i)

-- the nodes of two lists of nodes of terms
apart : (m : Images) (a b a' b' : List TermNode) → replaced m (map Term a) ≡ map Term a' → replaced m (map Term b) ≡ map Term b' → replaced m (map Term (a ++ b)) ≡ map Term (a' ++ b')
apart m a b a' b' p q =
    ap (replaced m) (map-append Term a b) ∙ (split m (map Term a) (map Term b) _ _ p q ∙ sym (map-append Term a' b'))

mutual
  pub term_replaced : (m : Images) (t : TermTree) → replaced m (inner_term t) ≡ inner_term (term_image m t)
  term_replaced m (number k) = refl
  term_replaced m (variable y) = append-nil (inner_term (m y))
  term_replaced m (add ts) = λ i. Term (Add (sym (same_count_terms m ts) i)) ∷ terms_replaced m ts i
  term_replaced m (sub t v) =
      ap (λ (l : List Node). Term Sub ∷ l) (apart m _ _ _ _ (term_replaced m t) (term_replaced m v))
  term_replaced m (mul ts) = λ i. Term (Mul (sym (same_count_terms m ts) i)) ∷ terms_replaced m ts i
  term_replaced m (div t k) = ap (λ (l : List Node). Term (Div k) ∷ l) (term_replaced m t)
  term_replaced m (wrapu t) = ap (λ (l : List Node). Term WrapUnsigned ∷ l) (term_replaced m t)
  term_replaced m (wraps t) = ap (λ (l : List Node). Term WrapSigned ∷ l) (term_replaced m t)
  term_replaced m (bits t) = ap (λ (l : List Node). Term Bits ∷ l) (term_replaced m t)

  pub terms_replaced : (m : Images) (ts : TermTrees) → replaced m (map Term (terms_nodes ts)) ≡ map Term (terms_nodes (terms_image m ts))
  terms_replaced m no_terms = refl
  terms_replaced m (term_and t ts) = apart m _ _ _ _ (term_replaced m t) (terms_replaced m ts)

mutual
  pub cond_replaced : (m : Images) (c : CondTree) → replaced m (cond_nodes c) ≡ cond_nodes (cond_image m c)
  cond_replaced m (le t v) = ap (λ (l : List Node). Condition Le ∷ l) (split m _ _ _ _ (term_replaced m t) (term_replaced m v))
  cond_replaced m (lt t v) = ap (λ (l : List Node). Condition Lt ∷ l) (split m _ _ _ _ (term_replaced m t) (term_replaced m v))
  cond_replaced m (eq t v) = ap (λ (l : List Node). Condition Eq ∷ l) (split m _ _ _ _ (term_replaced m t) (term_replaced m v))
  cond_replaced m (ne t v) = ap (λ (l : List Node). Condition Ne ∷ l) (split m _ _ _ _ (term_replaced m t) (term_replaced m v))
  cond_replaced m (not c) = ap (λ (l : List Node). Condition Not ∷ l) (cond_replaced m c)
  cond_replaced m (and cs) = λ i. Condition (And (sym (same_count_conds m cs) i)) ∷ conds_replaced m cs i
  cond_replaced m (or cs) = λ i. Condition (Or (sym (same_count_conds m cs) i)) ∷ conds_replaced m cs i

  pub conds_replaced : (m : Images) (cs : CondTrees) → replaced m (conds_nodes cs) ≡ conds_nodes (conds_image m cs)
  conds_replaced m no_conds = refl
  conds_replaced m (cond_and c cs) = split m _ _ _ _ (cond_replaced m c) (conds_replaced m cs)

mutual
  pub assertion_replaced : (m : Images) (a : AssertionTree) → replaced m (assertion_nodes a) ≡ assertion_nodes (assertion_image m a)
  assertion_replaced m (natural n) = refl
  assertion_replaced m infinity = refl
  assertion_replaced m (cost f) = refl
  assertion_replaced m (num t) = ap (λ (l : List Node). Assertion Num ∷ l) (term_replaced m t)
  assertion_replaced m (total parts) = λ i. Assertion (Total (sym (same_count m parts) i)) ∷ assertions_replaced m parts i
  assertion_replaced m (greatest parts) =
      λ i. Assertion (Greatest (sym (same_count m parts) i)) ∷ assertions_replaced m parts i
  assertion_replaced m (product parts) =
      λ i. Assertion (Product (sym (same_count m parts) i)) ∷ assertions_replaced m parts i
  assertion_replaced m (guard c a) =
      ap (λ (l : List Node). Assertion Guard ∷ l) (split m _ _ _ _ (cond_replaced m c) (assertion_replaced m a))
  assertion_replaced m (choose c a b) =
      ap (λ (l : List Node). Assertion If ∷ l) (split m _ _ _ _ (cond_replaced m c) (split m _ _ _ _ (assertion_replaced m a) (assertion_replaced m b)))
  assertion_replaced m (named n) = refl

  pub assertions_replaced : (m : Images) (parts : AssertionTrees) → replaced m (assertions_nodes parts) ≡ assertions_nodes (assertions_image m parts)
  assertions_replaced m no_assertions = refl
  assertions_replaced m (assertion_and a parts) =
      split m _ _ _ _ (assertion_replaced m a) (assertions_replaced m parts)

-- the list that a substitution made, at its end
pub all_replaced : (m : Images) (a : AssertionTree) (nodes list : List Node) (i : ℕ) → length list ≤ i → list ≡ assertion_nodes a → nodes ++ replaced m (drop i list) ≡ replaced m list → nodes ≡ assertion_nodes (assertion_image m a)
all_replaced m a nodes list i h e inv =
    sym (append-nil nodes) ∙ (ap (λ (l : List Node). nodes ++ replaced m l) (sym (drop_of_length-le list h)) ∙ (inv ∙ (ap (replaced m) e ∙ assertion_replaced m a)))
