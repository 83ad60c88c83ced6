use Rattle.std.proofs.Common.{◌≡◌, List, Bool, true, false, [], ◌∷◌, ◌++◌, drop, reverse, refl, ap, ◌∙◌, sym, append-nil}
use Rattle.qs_assert.specs.declared.node.Node.{Node}
use Rattle.qs_assert.specs.Trees.{CondTree}
use Rattle.qs_assert.specs.Listing.{cond_nodes, assertion_nodes}
use Rattle.qs_entail.specs.Branching.{copied, kept}
use Rattle.qs_entail.specs.Faults.{branch}
use Rattle.qs_assert.specs.Views.{front_length}
use Rattle.qs_entail.specs.Fronts.{own_length}
use Rattle.qs_entail.proofs.BranchingLaws.{result, in_place, skipped, more_nodes, kept_smaller}
use Rattle.qs_assert.proofs.FrontLaws.{fewer}
use Rattle.qs_entail.proofs.FrontWalks.{Waits, Next, task_nodes, waits_first, waits_last, next, goes_on, has_nodes}
use Rattle.qs_entail.proofs.branches.branch.Goals as goal

pub loop-is_kept-init : goal.loop-is_kept-init
loop-is_kept-init c =
    waits_first assertion_nodes (result c.args.b.now c.args.first) true c.args.a.now [] _ _ _ c.new-nodes.ensures.items (c.in_ok-put.ensures ∙ ap (λ (l : List Bool). true ∷ reverse l) c.new-pending.ensures.items) c.nodes-rest.ensures

pub loop-is_kept-smaller-then-is_kept : goal.loop-is_kept-smaller-then-is_kept
loop-is_kept-smaller-then-is_kept c =
    let n = next _ _ _ _ _ _ _ _ c.loop-is_kept.invariant c.in-Some.ensures in
    kept_smaller _ _ (has_nodes _ _ _ _ _ _ _ n (more_nodes n.tree)) (c.split_at.ensures.back ∙ ap (λ n. drop n c.loop-is_kept.rest.now) c.own_length.ensures.value)

pub loop-is_kept-smaller : goal.loop-is_kept-smaller
loop-is_kept-smaller c =
    let n = next _ _ _ _ _ _ _ _ c.loop-is_kept.invariant c.in-Some.ensures in
    fewer _ _ (has_nodes _ _ _ _ _ _ _ n (more_nodes n.tree)) (c.split_at-else-is_kept.ensures.back ∙ ap (λ n. drop n c.loop-is_kept.rest.now) c.tree_length.ensures.value)

-- a tree that is kept, and one that is skipped

keeps : (b : CondTree) (first : Bool) (whole nodes nodes' : List Node) (is_kept : Bool) (more pending pending' : List Bool) (rest rest' : List Node) →
    Waits assertion_nodes (result b first) whole nodes more rest → more ≡ is_kept ∷ pending → is_kept ≡ true →
    nodes' ≡ nodes ++ copied (cond_nodes b) rest → pending' ≡ kept (cond_nodes b) first rest ++ pending → rest' ≡ drop (own_length rest) rest →
    Waits assertion_nodes (result b first) whole nodes' pending' rest'
keeps b first whole nodes nodes' is_kept more pending pending' rest rest' w m k en ep er =
    let n : Next assertion_nodes (result b first) whole nodes true pending rest = next _ _ _ _ _ _ _ _ w (m ∙ ap (λ (v : Bool). v ∷ pending) k) in
    let p = in_place b first n.tree (task_nodes assertion_nodes n.tasks) rest n.left in
    goes_on _ _ _ _ _ _ _ _ _ _ _ _ _ n p en ep er

skips : (b : CondTree) (first : Bool) (whole nodes : List Node) (is_kept : Bool) (more pending : List Bool) (rest rest' : List Node) →
    Waits assertion_nodes (result b first) whole nodes more rest → more ≡ is_kept ∷ pending → is_kept ≡ false → rest' ≡ drop (front_length rest 1) rest →
    Waits assertion_nodes (result b first) whole nodes pending rest'
skips b first whole nodes is_kept more pending rest rest' w m k er =
    let n : Next assertion_nodes (result b first) whole nodes false pending rest = next _ _ _ _ _ _ _ _ w (m ∙ ap (λ (v : Bool). v ∷ pending) k) in
    let p = skipped b first n.tree (task_nodes assertion_nodes n.tasks) rest n.left in
    goes_on _ _ _ _ _ _ _ _ _ _ _ _ _ n p (sym (append-nil nodes)) refl er

pub loop-is_kept-preserved-then-is_kept : goal.loop-is_kept-preserved-then-is_kept
loop-is_kept-preserved-then-is_kept c =
    keeps c.args.b.now c.args.first _ _ _ _ _ _ _ _ _ c.loop-is_kept.invariant c.in-Some.ensures c.if-is_kept.true c.in_ok-keep.ensures.nodes c.in_ok-keep.ensures.marks (c.split_at.ensures.back ∙ ap (λ n. drop n c.loop-is_kept.rest.now) c.own_length.ensures.value)

pub loop-is_kept-preserved : goal.loop-is_kept-preserved
loop-is_kept-preserved c =
    skips c.args.b.now c.args.first _ _ _ _ _ _ _ c.loop-is_kept.invariant c.in-Some.ensures c.if-is_kept.false (c.split_at-else-is_kept.ensures.back ∙ ap (λ n. drop n c.loop-is_kept.rest.now) c.tree_length.ensures.value)

pub from_nodes-requires : goal.from_nodes-requires
from_nodes-requires c =
    (branch c.args.b.now c.args.first c.args.a.now, waits_last _ _ _ _ _ _ c.loop-is_kept.invariant c.in_default.ensures)

pub returns : goal.returns
returns c = c.from_nodes.ensures _ (waits_last _ _ _ _ _ _ c.loop-is_kept.invariant c.in_default.ensures)
