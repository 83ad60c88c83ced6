-- What a tree is whose nodes begin with a certain head.
use Rattle.std.proofs.Common.{◌≡◌, refl, ap, ◌∙◌, sym, true, take, drop, List, ◌++◌}
use Rattle.qs_assert.specs.declared.node.CondNode.TheVariants.{Le, Lt, Eq, Ne, Not}
use Rattle.qs_assert.specs.declared.node.AssertionNode.TheVariants.{Guard}
use Rattle.qs_assert.specs.declared.node.Node.{Node}
use Rattle.qs_assert.specs.declared.node.Node.TheVariants.{Condition, Assertion}
use Rattle.qs_assert.specs.Trees.{TermTree, CondTree, le, lt, eq, ne, not, and, or, AssertionTree, natural, infinity, cost, num, total, greatest, product, guard, choose, named, AssertionTrees}
use Rattle.qs_assert.specs.Listing.{inner_term, cond_nodes, assertion_nodes, assertions_nodes}
use Rattle.qs_assert.specs.Reading.{others}
use Rattle.qs_assert.specs.Views.{front_length, begins}
use Rattle.qs_entail.specs.Fronts.{is_greatest, is_total}
use Rattle.qs_assert.proofs.FrontLaws.{cond_front, first_is, others_are}

greatest_is : (a : AssertionTree) → is_greatest (assertion_nodes a) ≡ true → (parts : AssertionTrees) × (a ≡ greatest parts)
greatest_is (natural n) h = absurd (cc)
greatest_is infinity h = absurd (cc)
greatest_is (cost f) h = absurd (cc)
greatest_is (num t) h = absurd (cc)
greatest_is (total parts) h = absurd (cc)
greatest_is (greatest parts) h = (parts, refl)
greatest_is (product parts) h = absurd (cc)
greatest_is (guard c a) h = absurd (cc)
greatest_is (choose c a b) h = absurd (cc)
greatest_is (named n) h = absurd (cc)

total_is : (a : AssertionTree) → is_total (assertion_nodes a) ≡ true → (parts : AssertionTrees) × (a ≡ total parts)
total_is (natural n) h = absurd (cc)
total_is infinity h = absurd (cc)
total_is (cost f) h = absurd (cc)
total_is (num t) h = absurd (cc)
total_is (total parts) h = (parts, refl)
total_is (greatest parts) h = absurd (cc)
total_is (product parts) h = absurd (cc)
total_is (guard c a) h = absurd (cc)
total_is (choose c a b) h = absurd (cc)
total_is (named n) h = absurd (cc)

record IsGuard (a : AssertionTree) : Type 0 where
  pub condition : CondTree
  pub body : AssertionTree
  pub is : a ≡ guard condition body

guard_is : (a : AssertionTree) → begins (assertion_nodes a) (Assertion Guard) ≡ true → IsGuard a
guard_is (natural n) h = absurd (cc)
guard_is infinity h = absurd (cc)
guard_is (cost f) h = absurd (cc)
guard_is (num t) h = absurd (cc)
guard_is (total parts) h = absurd (cc)
guard_is (greatest parts) h = absurd (cc)
guard_is (product parts) h = absurd (cc)
guard_is (guard c a) h = record { condition = c; body = a; is = refl }
guard_is (choose c a b) h = absurd (cc)
guard_is (named n) h = absurd (cc)

-- a condition on two terms
record IsOf (c : CondTree) (relation : TermTree → TermTree → CondTree) : Type 0 where
  pub left : TermTree
  pub right : TermTree
  pub is : c ≡ relation left right

le_is : (c : CondTree) → begins (cond_nodes c) (Condition Le) ≡ true → IsOf c le
le_is (le t u) h = record { left = t; right = u; is = refl }
le_is (lt t u) h = absurd (cc)
le_is (eq t u) h = absurd (cc)
le_is (ne t u) h = absurd (cc)
le_is (not c) h = absurd (cc)
le_is (and cs) h = absurd (cc)
le_is (or cs) h = absurd (cc)

lt_is : (c : CondTree) → begins (cond_nodes c) (Condition Lt) ≡ true → IsOf c lt
lt_is (le t u) h = absurd (cc)
lt_is (lt t u) h = record { left = t; right = u; is = refl }
lt_is (eq t u) h = absurd (cc)
lt_is (ne t u) h = absurd (cc)
lt_is (not c) h = absurd (cc)
lt_is (and cs) h = absurd (cc)
lt_is (or cs) h = absurd (cc)

eq_is : (c : CondTree) → begins (cond_nodes c) (Condition Eq) ≡ true → IsOf c eq
eq_is (le t u) h = absurd (cc)
eq_is (lt t u) h = absurd (cc)
eq_is (eq t u) h = record { left = t; right = u; is = refl }
eq_is (ne t u) h = absurd (cc)
eq_is (not c) h = absurd (cc)
eq_is (and cs) h = absurd (cc)
eq_is (or cs) h = absurd (cc)

ne_is : (c : CondTree) → begins (cond_nodes c) (Condition Ne) ≡ true → IsOf c ne
ne_is (le t u) h = absurd (cc)
ne_is (lt t u) h = absurd (cc)
ne_is (eq t u) h = absurd (cc)
ne_is (ne t u) h = record { left = t; right = u; is = refl }
ne_is (not c) h = absurd (cc)
ne_is (and cs) h = absurd (cc)
ne_is (or cs) h = absurd (cc)

pub not_is : (c : CondTree) → begins (cond_nodes c) (Condition Not) ≡ true → (d : CondTree) × (c ≡ not d)
not_is (le t u) h = absurd (cc)
not_is (lt t u) h = absurd (cc)
not_is (eq t u) h = absurd (cc)
not_is (ne t u) h = absurd (cc)
not_is (not c) h = (c, refl)
not_is (and cs) h = absurd (cc)
not_is (or cs) h = absurd (cc)

-- the nodes of two terms
abbrev pub HasSides : List Node → Type 0
HasSides nodes = (t : TermTree) × ((u : TermTree) × (nodes ≡ inner_term t ++ inner_term u))

pub le_parts : (c : CondTree) (nodes parts : List Node) → nodes ≡ cond_nodes c → begins nodes (Condition Le) ≡ true → parts ≡ others nodes → HasSides parts
le_parts c nodes parts e h p =
    let is = le_is c (sym (ap (λ (l : List Node). begins l (Condition Le)) e) ∙ h) in
    (is.left, (is.right, p ∙ (ap others e ∙ ap (λ d. others (cond_nodes d)) is.is)))

pub lt_parts : (c : CondTree) (nodes parts : List Node) → nodes ≡ cond_nodes c → begins nodes (Condition Lt) ≡ true → parts ≡ others nodes → HasSides parts
lt_parts c nodes parts e h p =
    let is = lt_is c (sym (ap (λ (l : List Node). begins l (Condition Lt)) e) ∙ h) in
    (is.left, (is.right, p ∙ (ap others e ∙ ap (λ d. others (cond_nodes d)) is.is)))

pub eq_parts : (c : CondTree) (nodes parts : List Node) → nodes ≡ cond_nodes c → begins nodes (Condition Eq) ≡ true → parts ≡ others nodes → HasSides parts
eq_parts c nodes parts e h p =
    let is = eq_is c (sym (ap (λ (l : List Node). begins l (Condition Eq)) e) ∙ h) in
    (is.left, (is.right, p ∙ (ap others e ∙ ap (λ d. others (cond_nodes d)) is.is)))

pub ne_parts : (c : CondTree) (nodes parts : List Node) → nodes ≡ cond_nodes c → begins nodes (Condition Ne) ≡ true → parts ≡ others nodes → HasSides parts
ne_parts c nodes parts e h p =
    let is = ne_is c (sym (ap (λ (l : List Node). begins l (Condition Ne)) e) ∙ h) in
    (is.left, (is.right, p ∙ (ap others e ∙ ap (λ d. others (cond_nodes d)) is.is)))

-- the nodes of a condition and of an assertion
pub record GuardParts (a : AssertionTree) (nodes : List Node) : Type 0 where
  pub condition : CondTree
  pub body : AssertionTree
  pub is : a ≡ guard condition body
  pub first : take (front_length nodes 1) nodes ≡ cond_nodes condition
  pub second : drop (front_length nodes 1) nodes ≡ assertion_nodes body

pub guard_parts : (a : AssertionTree) (nodes parts : List Node) → nodes ≡ assertion_nodes a → begins nodes (Assertion Guard) ≡ true → parts ≡ others nodes → GuardParts a parts
guard_parts a nodes parts e h p =
    let g = guard_is a (sym (ap (λ (l : List Node). begins l (Assertion Guard)) e) ∙ h) in
    let two = p ∙ (ap others e ∙ ap (λ b. others (assertion_nodes b)) g.is) in
    record {
      condition = g.condition;
      body = g.body;
      is = g.is;
      first = first_is (cond_nodes g.condition) (assertion_nodes g.body) parts (cond_front g.condition) two;
      second = others_are (cond_nodes g.condition) (assertion_nodes g.body) parts (cond_front g.condition) two;
    }

-- the nodes of parts
pub record AllParts (a : AssertionTree) (whole : AssertionTrees → AssertionTree) (nodes : List Node) : Type 0 where
  pub parts : AssertionTrees
  pub is : a ≡ whole parts
  pub are : nodes ≡ assertions_nodes parts

pub greatest_parts : (a : AssertionTree) (nodes parts : List Node) → nodes ≡ assertion_nodes a → is_greatest nodes ≡ true → parts ≡ others nodes → AllParts a greatest parts
greatest_parts a nodes parts e h p =
    let g = greatest_is a (sym (ap is_greatest e) ∙ h) in
    record { parts = g.0; is = g.1; are = p ∙ (ap others e ∙ ap (λ b. others (assertion_nodes b)) g.1) }

pub total_parts : (a : AssertionTree) (nodes parts : List Node) → nodes ≡ assertion_nodes a → is_total nodes ≡ true → parts ≡ others nodes → AllParts a total parts
total_parts a nodes parts e h p =
    let g = total_is a (sym (ap is_total e) ∙ h) in
    record { parts = g.0; is = g.1; are = p ∙ (ap others e ∙ ap (λ b. others (assertion_nodes b)) g.1) }
