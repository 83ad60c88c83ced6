-- The nodes of an assertion in which conditionals on a condition are replaced by a branch.
use Rattle.std.proofs.Common.{◌≡◌, ◌<◌, ℕ, suc, take, drop, refl, ap, ◌∙◌, sym, subst, Bool, true, false, List, [], ◌∷◌, ◌++◌, length, replicate, append_assoc, append-nil, length-drop, arith}
use Rattle.std.specs.Prelude.{if◌then◌else◌}
use Rattle.std.specs.Prelude.{not as flip}
use Rattle.qs_assert.specs.declared.node.AssertionNode.TheVariants.{Num, Total, Greatest, Product, Guard, If}
use Rattle.qs_assert.specs.declared.node.Node.{Node}
use Rattle.qs_assert.specs.declared.node.Node.TheVariants.{Term, Condition, Assertion}
use Rattle.qs_assert.specs.Sameness.{same_cond, all_same, same_node}
use Rattle.qs_assert.specs.Trees.{TermTree, CondTree, AssertionTree, natural, infinity, cost, num, total, greatest, product, guard, choose, named, AssertionTrees, no_assertions, assertion_and, assertion_list}
use Rattle.qs_assert.specs.Listing.{inner_term, cond_nodes, assertion_nodes, assertions_nodes}
use Rattle.qs_assert.specs.Views.{front_length}
use Rattle.qs_entail.specs.Fronts.{has_inner, own_length}
use Rattle.qs_entail.specs.Faults.{branch, branches}
use Rattle.qs_entail.specs.Branching.{chooses, copied, kept}
use Rattle.qs_entail.proofs.FrontWalks.{task, task_nodes, results, all_of, all_marks, InPlace}
use Rattle.qs_assert.proofs.FrontLaws.{Fronts, term_front, cond_front, assertion_front, first_is, others_are}

-- what is made of a tree that is kept or skipped
abbrev pub result : CondTree → Bool → Bool → AssertionTree → List Node
result b first is_kept a = if is_kept then assertion_nodes (branch b first a) else []

all_nodes : (parts : AssertionTrees) → task_nodes assertion_nodes (all_of true (assertion_list parts)) ≡ assertions_nodes parts
all_nodes no_assertions = refl
all_nodes (assertion_and a parts) = ap (λ (l : List Node). assertion_nodes a ++ l) (all_nodes parts)

all_results : (b : CondTree) (first : Bool) (parts : AssertionTrees) → results (result b first) (all_of true (assertion_list parts)) ≡ assertions_nodes (branches b first parts)
all_results b first no_assertions = refl
all_results b first (assertion_and a parts) = ap (λ (l : List Node). assertion_nodes (branch b first a) ++ l) (all_results b first parts)

same_count : (b : CondTree) (first : Bool) (parts : AssertionTrees) → length (assertion_list (branches b first parts)) ≡ length (assertion_list parts)
same_count b first no_assertions = refl
same_count b first (assertion_and a parts) = ap suc (same_count b first parts)

-- ---- the parts of a tree in its place

abbrev Placed : CondTree → Bool → AssertionTree → List Node → List Node → Type 0
Placed b first a more nodes =
    InPlace assertion_nodes (result b first) true a more (copied (cond_nodes b) nodes) (kept (cond_nodes b) first nodes) (drop (own_length nodes) nodes)

in_place_of : (b : CondTree) (first : Bool) (whole : AssertionTrees → AssertionTree) (head : ℕ → Node) (parts : AssertionTrees) (more nodes : List Node) →
    nodes ≡ head (length (assertion_list parts)) ∷ (assertions_nodes parts ++ more) →
    kept (cond_nodes b) first nodes ≡ replicate (length (assertion_list parts)) true →
    copied (cond_nodes b) nodes ≡ head (length (assertion_list parts)) ∷ [] →
    drop (own_length nodes) nodes ≡ assertions_nodes parts ++ more →
    assertion_nodes (branch b first (whole parts)) ≡ head (length (assertion_list (branches b first parts))) ∷ assertions_nodes (branches b first parts) →
    Placed b first (whole parts) more nodes
in_place_of b first whole head parts more nodes e k s d r = record {
  tasks = all_of true (assertion_list parts);
  marked = all_marks true (assertion_list parts) ∙ sym k;
  shown = (λ i. s i ++ all_results b first parts i) ∙ (ap (λ (n : ℕ). head n ∷ assertions_nodes (branches b first parts)) (sym (same_count b first parts)) ∙ sym r);
  after = d ∙ ap (λ (l : List Node). l ++ more) (sym (all_nodes parts));
}

-- the head with a term or a condition, and what follows it
own_is : (head : Node) (xs rest : List Node) → Fronts xs 1 → take (suc (front_length (xs ++ rest) 1)) (head ∷ (xs ++ rest)) ≡ head ∷ xs
own_is head xs rest f = ap (λ (l : List Node). head ∷ l) (first_is xs rest (xs ++ rest) f refl)

after_is : (head : Node) (xs rest : List Node) → Fronts xs 1 → drop (suc (front_length (xs ++ rest) 1)) (head ∷ (xs ++ rest)) ≡ rest
after_is head xs rest f = others_are xs rest (xs ++ rest) f refl

num_in_place : (b : CondTree) (first : Bool) (t : TermTree) (more : List Node) → Placed b first (num t) more (assertion_nodes (num t) ++ more)
num_in_place b first t more = record {
  tasks = [];
  marked = refl;
  shown = append-nil _ ∙ own_is (Assertion Num) (inner_term t) more (term_front t);
  after = after_is (Assertion Num) (inner_term t) more (term_front t);
}

guard_in_place : (b : CondTree) (first : Bool) (c : CondTree) (a : AssertionTree) (more : List Node) →
    Placed b first (guard c a) more (Assertion Guard ∷ (cond_nodes c ++ (assertion_nodes a ++ more)))
guard_in_place b first c a more =
    let rest = assertion_nodes a ++ more in
    record {
      tasks = task true a ∷ [];
      marked = refl;
      shown =
          (λ i. own_is (Assertion Guard) (cond_nodes c) rest (cond_front c) i ++ append-nil (assertion_nodes (branch b first a)) i);
      after = after_is (Assertion Guard) (cond_nodes c) rest (cond_front c) ∙ ap (λ (l : List Node). l ++ more) (sym (append-nil (assertion_nodes a)));
    }

-- a conditional, on the same condition or on another

abbrev if_nodes : CondTree → AssertionTree → AssertionTree → List Node → List Node
if_nodes c x y more = Assertion If ∷ (cond_nodes c ++ (assertion_nodes x ++ (assertion_nodes y ++ more)))

chooses_is : (b c : CondTree) (x y : AssertionTree) (more : List Node) → chooses (cond_nodes b) (if_nodes c x y more) ≡ same_cond b c
chooses_is b c x y more =
    ap (all_same same_node (cond_nodes b)) (first_is (cond_nodes c) (assertion_nodes x ++ (assertion_nodes y ++ more)) _ (cond_front c) refl)

two_after : (p q : Bool) (c : CondTree) (x y : AssertionTree) (more : List Node) →
    drop (own_length (if_nodes c x y more)) (if_nodes c x y more) ≡ task_nodes assertion_nodes (task p x ∷ (task q y ∷ [])) ++ more
two_after p q c x y more =
    after_is (Assertion If) (cond_nodes c) (assertion_nodes x ++ (assertion_nodes y ++ more)) (cond_front c) ∙
    (ap (λ (l : List Node). assertion_nodes x ++ (l ++ more)) (sym (append-nil (assertion_nodes y))) ∙ sym (append_assoc (assertion_nodes x) (assertion_nodes y ++ []) more))

chosen : (b : CondTree) (first : Bool) (x y : AssertionTree) → results (result b first) (task first x ∷ (task (flip first) y ∷ [])) ≡ assertion_nodes (if first then branch b first x else branch b first y)
chosen b true x y = append-nil (assertion_nodes (branch b true x))
chosen b false x y = append-nil (assertion_nodes (branch b false y))

same_in_place : (b : CondTree) (first : Bool) (c : CondTree) (x y : AssertionTree) (more : List Node) → same_cond b c ≡ true →
    Placed b first (choose c x y) more (if_nodes c x y more)
same_in_place b first c x y more h =
    let is = chooses_is b c x y more ∙ h in
    record {
      tasks = task first x ∷ (task (flip first) y ∷ []);
      marked = ap (λ (v : Bool). if v then first ∷ (flip first ∷ []) else replicate 2 true) (sym is);
      shown =
          ap (λ (v : Bool). (if v then [] else take (own_length (if_nodes c x y more)) (if_nodes c x y more)) ++ results (result b first) (task first x ∷ (task (flip first) y ∷ []))) is ∙
          (chosen b first x y ∙ ap (λ (v : Bool). assertion_nodes (if v then (if first then branch b first x else branch b first y) else choose c (branch b first x) (branch b first y))) (sym h));
      after = two_after first (flip first) c x y more;
    }

other_in_place : (b : CondTree) (first : Bool) (c : CondTree) (x y : AssertionTree) (more : List Node) → same_cond b c ≡ false →
    Placed b first (choose c x y) more (if_nodes c x y more)
other_in_place b first c x y more h =
    let is = chooses_is b c x y more ∙ h in
    let own = own_is (Assertion If) (cond_nodes c) (assertion_nodes x ++ (assertion_nodes y ++ more)) (cond_front c) in
    let two : results (result b first) (task true x ∷ (task true y ∷ [])) ≡ assertion_nodes (branch b first x) ++ assertion_nodes (branch b first y) =
    ap (λ (l : List Node). assertion_nodes (branch b first x) ++ l) (append-nil (assertion_nodes (branch b first y))) in
    record {
      tasks = task true x ∷ (task true y ∷ []);
      marked = ap (λ (v : Bool). if v then first ∷ (flip first ∷ []) else replicate 2 true) (sym is);
      shown =
          ap (λ (v : Bool). (if v then [] else take (own_length (if_nodes c x y more)) (if_nodes c x y more)) ++ results (result b first) (task true x ∷ (task true y ∷ []))) is ∙
          ((λ i. own i ++ two i) ∙ ap (λ (v : Bool). assertion_nodes (if v then (if first then branch b first x else branch b first y) else choose c (branch b first x) (branch b first y))) (sym h));
      after = two_after true true c x y more;
    }

choose_in_place : (v : Bool) (b : CondTree) (first : Bool) (c : CondTree) (x y : AssertionTree) (more : List Node) → same_cond b c ≡ v →
    Placed b first (choose c x y) more (if_nodes c x y more)
choose_in_place true b first c x y more h = same_in_place b first c x y more h
choose_in_place false b first c x y more h = other_in_place b first c x y more h

in_place_at : (b : CondTree) (first : Bool) (a : AssertionTree) (more : List Node) → Placed b first a more (assertion_nodes a ++ more)
in_place_at b first (natural n) more = record { tasks = []; marked = refl; shown = refl; after = refl }
in_place_at b first infinity more = record { tasks = []; marked = refl; shown = refl; after = refl }
in_place_at b first (cost f) more = record { tasks = []; marked = refl; shown = refl; after = refl }
in_place_at b first (num t) more = num_in_place b first t more
in_place_at b first (total parts) more =
    in_place_of b first total (λ n. Assertion (Total n)) parts more _ refl refl refl refl refl
in_place_at b first (greatest parts) more =
    in_place_of b first greatest (λ n. Assertion (Greatest n)) parts more _ refl refl refl refl refl
in_place_at b first (product parts) more =
    in_place_of b first product (λ n. Assertion (Product n)) parts more _ refl refl refl refl refl
in_place_at b first (guard c a) more =
    subst (λ (l : List Node). Placed b first (guard c a) more (Assertion Guard ∷ l)) (sym (append_assoc (cond_nodes c) (assertion_nodes a) more)) (guard_in_place b first c a more)
in_place_at b first (choose c x y) more =
    subst (λ (l : List Node). Placed b first (choose c x y) more (Assertion If ∷ l))
    (ap (λ (l : List Node). cond_nodes c ++ l) (sym (append_assoc (assertion_nodes x) (assertion_nodes y) more)) ∙ sym (append_assoc (cond_nodes c) (assertion_nodes x ++ assertion_nodes y) more))
    (choose_in_place (same_cond b c) b first c x y more refl)
in_place_at b first (named n) more = record { tasks = []; marked = refl; shown = refl; after = refl }

pub in_place : (b : CondTree) (first : Bool) (a : AssertionTree) (more nodes : List Node) → nodes ≡ assertion_nodes a ++ more → Placed b first a more nodes
in_place b first a more nodes e = subst (λ (l : List Node). Placed b first a more l) (sym e) (in_place_at b first a more)

-- a tree that is skipped
pub skipped : (b : CondTree) (first : Bool) (a : AssertionTree) (more nodes : List Node) → nodes ≡ assertion_nodes a ++ more →
    InPlace assertion_nodes (result b first) false a more [] [] (drop (front_length nodes 1) nodes)
skipped b first a more nodes e = record { tasks = []; marked = refl; shown = refl; after = others_are (assertion_nodes a) more nodes (assertion_front a) e }

-- each turn leaves fewer nodes

pub more_nodes : (a : AssertionTree) → 0 < length (assertion_nodes a)
more_nodes (natural n) = omega arith
more_nodes infinity = omega arith
more_nodes (cost f) = omega arith
more_nodes (num t) = omega arith
more_nodes (total parts) = omega arith
more_nodes (greatest parts) = omega arith
more_nodes (product parts) = omega arith
more_nodes (guard c a) = omega arith
more_nodes (choose c a b) = omega arith
more_nodes (named n) = omega arith

own_more : (nodes : List Node) → 0 < length nodes → 0 < own_length nodes
own_more [] h = absurd (omega arith)
own_more (Term node ∷ nodes) h = omega arith
own_more (Condition node ∷ nodes) h = omega arith
own_more (Assertion node ∷ nodes) h = choice (has_inner node) (front_length nodes 1)
  where
    choice : (v : Bool) (n : ℕ) → 0 < (if v then suc n else 1)
    choice true n = omega arith
    choice false n = omega arith

pub kept_smaller : (nodes rest : List Node) → 0 < length nodes → rest ≡ drop (own_length nodes) nodes → length rest < length nodes
kept_smaller nodes rest h e = omega (arith, own_more nodes h, ap length e, length-drop (own_length nodes) nodes)
