use Rattle.std.proofs.Common.{List, Bool, ◌∷◌, reverse, refl, ap, ◌∙◌, sym, append-nil}
use Rattle.qs_assert.specs.Listing.{cond_nodes}
use Rattle.qs_entail.specs.Flattening.{flat, whole}
use Rattle.qs_assert.proofs.FrontLaws.{cond_front, first_is, fewer}
use Rattle.qs_entail.proofs.FlatteningLaws.{in_place, whole_in_place, more_nodes}
use Rattle.qs_entail.proofs.FrontWalks.{task_nodes, waits_first, waits_last, next, goes_on, has_nodes}
use Rattle.qs_entail.proofs.flattening.put_flat.Goals as goal

pub loop-is_negated-init : goal.loop-is_negated-init
loop-is_negated-init c =
    waits_first cond_nodes flat c.args.negated c.args.c.now c.args.list.now.items _ _ _ refl (c.in_ok-put.ensures ∙ ap (λ (l : List Bool). c.args.negated ∷ reverse l) c.new-pending.ensures.items) c.nodes-rest.ensures

pub loop-is_negated-preserved-then-opens : goal.loop-is_negated-preserved-then-opens
loop-is_negated-preserved-then-opens c =
    let n = next _ _ _ _ _ _ _ _ c.loop-is_negated.invariant c.in-Some.ensures in
    let p = in_place _ n.tree (task_nodes cond_nodes n.tasks) _ n.left (sym c.opens.ensures ∙ c.if-opens.true) in
    goes_on _ _ _ _ _ _ _ _ _ _ _ _ _ n p (sym (append-nil c.loop-is_negated.list.items)) c.in_ok-open.ensures c.parts-rest.ensures

pub from_nodes-requires : goal.from_nodes-requires
from_nodes-requires c =
    let n = next _ _ _ _ _ _ _ _ c.loop-is_negated.invariant c.in-Some.ensures in
    (n.tree, c.split_tree.ensures.first ∙ first_is (cond_nodes n.tree) (task_nodes cond_nodes n.tasks) _ (cond_front n.tree) n.left)

pub loop-is_negated-smaller : goal.loop-is_negated-smaller
loop-is_negated-smaller c =
    let n = next _ _ _ _ _ _ _ _ c.loop-is_negated.invariant c.in-Some.ensures in
    fewer _ _ (has_nodes _ _ _ _ _ _ _ n (more_nodes n.tree)) c.split_tree.ensures.others

pub loop-is_negated-preserved : goal.loop-is_negated-preserved
loop-is_negated-preserved c =
    let n = next _ _ _ _ _ _ _ _ c.loop-is_negated.invariant c.in-Some.ensures in
    let is = c.split_tree.ensures.first ∙ first_is (cond_nodes n.tree) (task_nodes cond_nodes n.tasks) _ (cond_front n.tree) n.left in
    let p = whole_in_place _ n.tree (task_nodes cond_nodes n.tasks) _ _ n.left (sym c.opens.ensures ∙ c.if-opens.false) (c.in_ok-pushed.ensures ∙ ap (whole _) (c.from_nodes.ensures n.tree is)) in
    goes_on _ _ _ _ _ _ _ _ _ _ _ _ _ n p c.in_ok-push.ensures.items refl c.split_tree.ensures.others

pub returns : goal.returns
returns c = waits_last _ _ _ _ _ _ c.loop-is_negated.invariant c.in_default.ensures
