-- The conditions that are pushed for a condition, from its nodes.
use Rattle.std.proofs.Common.{◌≡◌, ◌<◌, drop, refl, ap, ◌∙◌, sym, subst, Bool, true, false, List, [], ◌∷◌, ◌++◌, length, replicate, append-nil, arith}
use Rattle.std.specs.Prelude.{not as flip}
use Rattle.qs_assert.specs.declared.node.Node.{Node}
use Rattle.qs_assert.specs.Reading.{others}
use Rattle.qs_assert.specs.Trees.{CondTree, le, lt, eq, ne, not, and, or, CondTrees, no_conds, cond_and, cond_list}
use Rattle.qs_assert.specs.Listing.{cond_nodes, conds_nodes}
use Rattle.qs_assert.specs.Views.{front_length, head_arity}
use Rattle.qs_entail.specs.Flattening.{whole, flat, flats, opens, parts_negated}
use Rattle.qs_entail.proofs.FrontWalks.{task, task_nodes, results, all_of, all_marks, InPlace}
use Rattle.qs_assert.proofs.FrontLaws.{cond_front, others_are}

all_nodes : (negated : Bool) (cs : CondTrees) → task_nodes cond_nodes (all_of negated (cond_list cs)) ≡ conds_nodes cs
all_nodes negated no_conds = refl
all_nodes negated (cond_and c cs) = ap (λ (l : List Node). cond_nodes c ++ l) (all_nodes negated cs)

all_results : (negated : Bool) (cs : CondTrees) → results flat (all_of negated (cond_list cs)) ≡ flats negated cs
all_results negated no_conds = refl
all_results negated (cond_and c cs) = ap (λ (l : List CondTree). flat negated c ++ l) (all_results negated cs)

-- ---- the parts of a condition in its place

abbrev Placed : Bool → CondTree → List Node → List Node → Type 0
Placed negated c more nodes = InPlace cond_nodes flat negated c more [] (replicate (head_arity nodes) (parts_negated negated nodes)) (others nodes)

parts_in_place : (negated : Bool) (c : CondTree) (cs : CondTrees) (more nodes : List Node) →
    head_arity nodes ≡ length (cond_list cs) → parts_negated negated nodes ≡ negated → flat negated c ≡ flats negated cs → others nodes ≡ conds_nodes cs ++ more → Placed negated c more nodes
parts_in_place negated c cs more nodes n p f o = record {
  tasks = all_of negated (cond_list cs);
  marked = all_marks negated (cond_list cs) ∙ (λ i. replicate (sym n i) (sym p i));
  shown = all_results negated cs ∙ sym f;
  after = o ∙ ap (λ (l : List Node). l ++ more) (sym (all_nodes negated cs));
}

in_place_at : (negated : Bool) (c : CondTree) (more : List Node) → opens negated (cond_nodes c ++ more) ≡ true → Placed negated c more (cond_nodes c ++ more)
in_place_at negated (le t u) more h = absurd (cc)
in_place_at negated (lt t u) more h = absurd (cc)
in_place_at negated (eq t u) more h = absurd (cc)
in_place_at negated (ne t u) more h = absurd (cc)
in_place_at negated (not c) more h = record {
  tasks = task (flip negated) c ∷ [];
  marked = refl;
  shown = append-nil (flat (flip negated) c);
  after = ap (λ (l : List Node). l ++ more) (sym (append-nil (cond_nodes c)));
}
in_place_at false (and cs) more h = parts_in_place false (and cs) cs more (cond_nodes (and cs) ++ more) refl refl refl refl
in_place_at true (and cs) more h = absurd (cc)
in_place_at false (or cs) more h = absurd (cc)
in_place_at true (or cs) more h = parts_in_place true (or cs) cs more (cond_nodes (or cs) ++ more) refl refl refl refl

pub in_place : (negated : Bool) (c : CondTree) (more nodes : List Node) → nodes ≡ cond_nodes c ++ more → opens negated nodes ≡ true → Placed negated c more nodes
in_place negated c more nodes e h =
    subst (λ (l : List Node). Placed negated c more l) (sym e) (in_place_at negated c more (sym (ap (opens negated) e) ∙ h))

whole_at : (negated : Bool) (c : CondTree) (more : List Node) → opens negated (cond_nodes c ++ more) ≡ false → flat negated c ≡ whole negated c ∷ []
whole_at negated (le t u) more h = refl
whole_at negated (lt t u) more h = refl
whole_at negated (eq t u) more h = refl
whole_at negated (ne t u) more h = refl
whole_at negated (not c) more h = absurd (cc)
whole_at false (and cs) more h = absurd (cc)
whole_at true (and cs) more h = refl
whole_at false (or cs) more h = refl
whole_at true (or cs) more h = absurd (cc)

pub whole_in_place : (negated : Bool) (c : CondTree) (more nodes : List Node) (pushed : CondTree) → nodes ≡ cond_nodes c ++ more → opens negated nodes ≡ false → pushed ≡ whole negated c →
    InPlace cond_nodes flat negated c more (pushed ∷ []) [] (drop (front_length nodes 1) nodes)
whole_in_place negated c more nodes pushed e h p = record {
  tasks = [];
  marked = refl;
  shown = ap (λ (d : CondTree). d ∷ []) p ∙ sym (whole_at negated c more (sym (ap (opens negated) e) ∙ h));
  after = others_are (cond_nodes c) more nodes (cond_front c) e;
}

-- each turn leaves fewer nodes

pub more_nodes : (c : CondTree) → 0 < length (cond_nodes c)
more_nodes (le t u) = omega arith
more_nodes (lt t u) = omega arith
more_nodes (eq t u) = omega arith
more_nodes (ne t u) = omega arith
more_nodes (not c) = omega arith
more_nodes (and cs) = omega arith
more_nodes (or cs) = omega arith
