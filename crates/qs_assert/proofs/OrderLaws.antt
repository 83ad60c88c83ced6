-- Which names the nodes of an assertion have, and how definitions are gone through in order.
use Rattle.std.proofs.Common.{◌≡◌, ◌<◌, ◌≤◌, ℕ, zero, suc, ◌+◌, ◌-◌, take, drop, length, get_or, refl, ap, sym, ◌∙◌, Bool, true, false, List, [], ◌∷◌, ◌++◌, map, arith}
use Rattle.std.specs.Prelude.{◌&&◌, ◌||◌}
use Rattle.std.specs.List.{list_all}
use Rattle.std.proofs.lemmas.List.Folds.{list_all-append}
use Rattle.std.proofs.Math.Seq.{drop-cons}
use Rattle.std.proofs.Math.Bool.{and-true}
use Rattle.qs_assert.specs.declared.define.Define.{Define}
use Rattle.qs_assert.specs.declared.node.TermNode.{TermNode}
use Rattle.qs_assert.specs.declared.node.Node.{Node}
use Rattle.qs_assert.specs.declared.node.Node.TheVariants.{Term}
use Rattle.qs_assert.specs.Trees.{CondTree, le, lt, eq, ne, not, and, or, CondTrees, no_conds, cond_and, AssertionTree, natural, infinity, cost, num, total, greatest, product, guard, choose, named, AssertionTrees, no_assertions, assertion_and}
use Rattle.qs_assert.specs.Bounds.{same_name}
use Rattle.qs_assert.specs.Listing.{term_nodes, inner_term, cond_nodes, conds_nodes, assertion_nodes, assertions_nodes}
use Rattle.qs_assert.specs.Order.{names_known, all_names_known, is_among, node_known}

both : (known : List ℕ → Bool) (xs ys : List Node) (a b : Bool) → list_all (node_known known) xs ≡ a → list_all (node_known known) ys ≡ b → list_all (node_known known) (xs ++ ys) ≡ (a && b)
both known xs ys a b p q = list_all-append (node_known known) xs ys ∙ (λ i. p i && q i)

-- terms and conditions have no names

terms_known : (known : List ℕ → Bool) (nodes : List TermNode) → list_all (node_known known) (map Term nodes) ≡ true
terms_known known [] = refl
terms_known known (node ∷ nodes) = terms_known known nodes

mutual
  cond_known : (known : List ℕ → Bool) (c : CondTree) → list_all (node_known known) (cond_nodes c) ≡ true
  cond_known known (le t u) = both known (inner_term t) (inner_term u) true true (terms_known known (term_nodes t)) (terms_known known (term_nodes u))
  cond_known known (lt t u) = both known (inner_term t) (inner_term u) true true (terms_known known (term_nodes t)) (terms_known known (term_nodes u))
  cond_known known (eq t u) = both known (inner_term t) (inner_term u) true true (terms_known known (term_nodes t)) (terms_known known (term_nodes u))
  cond_known known (ne t u) = both known (inner_term t) (inner_term u) true true (terms_known known (term_nodes t)) (terms_known known (term_nodes u))
  cond_known known (not c) = cond_known known c
  cond_known known (and cs) = conds_known known cs
  cond_known known (or cs) = conds_known known cs

  conds_known : (known : List ℕ → Bool) (cs : CondTrees) → list_all (node_known known) (conds_nodes cs) ≡ true
  conds_known known no_conds = refl
  conds_known known (cond_and c cs) = both known (cond_nodes c) (conds_nodes cs) true true (cond_known known c) (conds_known known cs)

mutual
  pub nodes_known : (known : List ℕ → Bool) (a : AssertionTree) → list_all (node_known known) (assertion_nodes a) ≡ names_known a known
  nodes_known known (natural n) = refl
  nodes_known known infinity = refl
  nodes_known known (cost f) = refl
  nodes_known known (num t) = terms_known known (term_nodes t)
  nodes_known known (total parts) = all_nodes_known known parts
  nodes_known known (greatest parts) = all_nodes_known known parts
  nodes_known known (product parts) = all_nodes_known known parts
  nodes_known known (guard c a) = both known (cond_nodes c) (assertion_nodes a) true (names_known a known) (cond_known known c) (nodes_known known a)
  nodes_known known (choose c a b) =
      both known (cond_nodes c) (assertion_nodes a ++ assertion_nodes b) true (names_known a known && names_known b known) (cond_known known c)
      (both known (assertion_nodes a) (assertion_nodes b) (names_known a known) (names_known b known) (nodes_known known a) (nodes_known known b))
  nodes_known known (named n) = and-true (known n)

  pub all_nodes_known : (known : List ℕ → Bool) (parts : AssertionTrees) → list_all (node_known known) (assertions_nodes parts) ≡ all_names_known parts known
  all_nodes_known known no_assertions = refl
  all_nodes_known known (assertion_and a parts) =
      both known (assertion_nodes a) (assertions_nodes parts) (names_known a known) (all_names_known parts known) (nodes_known known a) (all_nodes_known known parts)

-- ---- a name that is sought from both ends

none_of : (b c d : Bool) → (b || c) ≡ false → (c ≡ false → d ≡ false) → (b || d) ≡ false
none_of true c d h k = h
none_of false c d h k = k h

-- it is not the name before those behind
pub before_behind : (ds : List Define) (n : List ℕ) (k : ℕ) (d : Define) → k < length ds → same_name n (get_or ds (length ds - 1 - k) d).name ≡ false → is_among (drop (length ds - k) ds) n ≡ false → is_among (drop (length ds - (k + 1)) ds) n ≡ false
before_behind ds n k d h e back =
    let at : length ds - (k + 1) ≡ length ds - 1 - k = omega (arith, h) in
    let next : length ds - k ≡ suc (length ds - 1 - k) = omega (arith, h) in
    let low : length ds - 1 - k < length ds = omega (arith, h) in
    ap (λ (j : ℕ). is_among (drop j ds) n) at
    ∙ (ap (λ (l : List Define). is_among l n) (drop-cons ds (length ds - 1 - k) d low)
    ∙ (ap (λ b. b || is_among (drop (suc (length ds - 1 - k)) ds) n) e
    ∙ (ap (λ (j : ℕ). is_among (drop j ds) n) (sym next) ∙ back)))

-- where the ends meet, it is none
pub neither_end : (ds : List Define) (n : List ℕ) (i j : ℕ) → j ≤ i → is_among (take i ds) n ≡ false → is_among (drop j ds) n ≡ false → is_among ds n ≡ false
neither_end [] n i j h front back = refl
neither_end (d ∷ ds) n i zero h front back = back
neither_end (d ∷ ds) n zero (suc j) h front back = absurd (omega (arith, h))
neither_end (d ∷ ds) n (suc i) (suc j) h front back =
    none_of (same_name n d.name) (is_among (take i ds) n) (is_among ds n) front (λ f. neither_end ds n i j (omega (arith, h)) f back)
