-- Labels of a switch, one after the other; and parts whose needs come the last one first.
use Rattle.std.proofs.Common.{◌≡◌, ◌<◌, ◌≤◌, ◌-◌, ℕ, suc, Bool, List, ◌∷◌, ◌++◌, length, get_or, drop, reverse, refl, sym, ap, ◌∙◌, append_assoc, arith}
use Rattle.std.specs.Prelude.{◌&&◌}
use Rattle.std.proofs.lemmas.List.{get_or_default, get_or_past, get_or-reverse, length-reverse}
use Rattle.qs_memory.specs.declared.scalar.Scalar.{Scalar}
use Rattle.qs_assert.specs.declared.node.AssertionNode.TheVariants.{If}
use Rattle.qs_assert.specs.declared.node.Node.{Node}
use Rattle.qs_assert.specs.declared.node.Node.TheVariants.{Assertion}
use Rattle.qs_assert.specs.Listing.{cond_nodes, assertion_nodes}
use Rattle.qs_assert.specs.Trees.{TermTree, number, eq, AssertionTree, assertions_of}
use Rattle.qs_assert.specs.Reading.{assertions_of-list}
use Rattle.qs_core.specs.declared.labels.CoreLabel.{CoreLabel}
use Rattle.qs_core.specs.declared.labels.CoreLabel.TheVariants.{Case, Default}
use Rattle.qs_core.specs.Terms.{literal_value}
use Rattle.qs_core.proofs.LabelLaws.{label_front}
use Rattle.qs_triples.specs.Rules.{before_part, all_need, by_values, at_cases}
use Rattle.qs_triples.specs.Switches.{case_nodes, label_needs, case_need, at_cases_view}

-- ---- labels

all_need_front : (d : AssertionTree) (before : ℕ → AssertionTree) (x : CoreLabel) (labels : List CoreLabel) → all_need d before (x ∷ labels) ≡ (label_needs d before x && all_need d before labels)
all_need_front d before (Case n part) labels = refl
all_need_front d before (Default part) labels = refl

pub all_need_at : (d : AssertionTree) (before : ℕ → AssertionTree) (labels : List CoreLabel) (i : ℕ) (x : CoreLabel) (b : Bool) → i < length labels → x ≡ get_or labels i x → label_needs d before x ≡ b → all_need d before (drop i labels) ≡ (b && all_need d before (drop (suc i) labels))
all_need_at d before labels i x b h is e =
    ap (all_need d before) (label_front labels i x h is) ∙ all_need_front d before x (drop (suc i) labels) ∙ ap (λ (c : Bool). c && all_need d before (drop (suc i) labels)) e

values_front :
    (d : AssertionTree) (before : ℕ → AssertionTree) (s : Scalar) (t : TermTree) (x : CoreLabel) (labels : List CoreLabel)
    → assertion_nodes (by_values d before s t (x ∷ labels)) ≡ case_nodes before s t x ++ assertion_nodes (by_values d before s t labels)
values_front d before s t (Case n part) labels =
    ap (λ (l : List Node). Assertion If ∷ l) (sym (append_assoc (cond_nodes (eq t (number (literal_value s n)))) (assertion_nodes (before part)) (assertion_nodes (by_values d before s t labels))))
values_front d before s t (Default part) labels = refl

-- the nodes of what a label puts in front
pub values_at :
    (d : AssertionTree) (before : ℕ → AssertionTree) (s : Scalar) (t : TermTree) (labels : List CoreLabel) (i : ℕ) (x : CoreLabel) → i < length labels → x ≡ get_or labels i x
    → (nodes : List Node) → (nodes ++ case_nodes before s t x) ++ assertion_nodes (by_values d before s t (drop (suc i) labels)) ≡ nodes ++ assertion_nodes (by_values d before s t (drop i labels))
values_at d before s t labels i x h is nodes =
    append_assoc nodes (case_nodes before s t x) (assertion_nodes (by_values d before s t (drop (suc i) labels)))
    ∙ ap (λ (l : List Node). nodes ++ l) (sym (ap (λ (ls : List CoreLabel). assertion_nodes (by_values d before s t ls)) (label_front labels i x h is) ∙ values_front d before s t x (drop (suc i) labels)))

cases_front : (d : AssertionTree) (before : ℕ → AssertionTree) (x : CoreLabel) (labels : List CoreLabel) → at_cases_view d before (x ∷ labels) ≡ case_need before x ++ at_cases_view d before labels
cases_front d before (Case n part) labels = refl
cases_front d before (Default part) labels = refl

pub cases_at :
    (d : AssertionTree) (before : ℕ → AssertionTree) (labels : List CoreLabel) (i : ℕ) (x : CoreLabel) → i < length labels → x ≡ get_or labels i x
    → (list : List AssertionTree) → (list ++ case_need before x) ++ at_cases_view d before (drop (suc i) labels) ≡ list ++ at_cases_view d before (drop i labels)
cases_at d before labels i x h is list =
    append_assoc list (case_need before x) (at_cases_view d before (drop (suc i) labels))
    ∙ ap (λ (l : List AssertionTree). list ++ l) (sym (ap (λ (ls : List CoreLabel). at_cases_view d before ls) (label_front labels i x h is) ∙ cases_front d before x (drop (suc i) labels)))

pub cases_listed : (d : AssertionTree) (before : ℕ → AssertionTree) (labels : List CoreLabel) → assertions_of (at_cases_view d before labels) ≡ at_cases d before labels
cases_listed d before labels = assertions_of-list (at_cases d before labels)

-- ---- what comes the last one first

pub part_there : (next : AssertionTree) (before : List AssertionTree) (k j : ℕ) (a : AssertionTree) → k < length before → j ≡ length before - 1 - k → a ≡ get_or before j a → a ≡ before_part next (reverse before) k
part_there next before k j a h e is =
    is ∙ get_or_default before j a next (omega arith) ∙ ap (λ i. get_or before i next) e ∙ sym (get_or-reverse before k next h)

pub no_part_there : (next : AssertionTree) (before : List AssertionTree) (k : ℕ) → length before ≤ k → next ≡ before_part next (reverse before) k
no_part_there next before k h = sym (get_or_past (reverse before) k next (let l = length-reverse before in omega arith))
