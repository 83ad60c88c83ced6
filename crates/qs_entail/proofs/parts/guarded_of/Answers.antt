use Rattle.std.proofs.Common.{Ok, ap, ◌∙◌, sym}
use Rattle.qs_entail.specs.Faults.{Guarded, guarded_of}
use Rattle.qs_entail.proofs.PartLaws.{guard_parts}
use Rattle.qs_entail.proofs.parts.guarded_of.Goals as goal

pub from_nodes-condition-requires : goal.from_nodes-condition-requires
from_nodes-condition-requires c =
    let g = guard_parts _ _ _ c.nodes-nodes.ensures (cc) c.parts.ensures in
    (g.condition, c.split_tree.ensures.first ∙ g.first)

pub from_nodes-body-requires : goal.from_nodes-body-requires
from_nodes-body-requires c =
    let g = guard_parts _ _ _ c.nodes-nodes.ensures (cc) c.parts.ensures in
    (g.body, c.split_tree.ensures.others ∙ g.second)

pub returns : goal.returns
returns c =
    let g = guard_parts _ _ _ c.nodes-nodes.ensures (cc) c.parts.ensures in
    let condition = c.from_nodes-condition.ensures g.condition (c.split_tree.ensures.first ∙ g.first) in
    let body = c.from_nodes-body.ensures g.body (c.split_tree.ensures.others ∙ g.second) in
    let made : Guarded → Guarded = λ g. g in
    ap guarded_of g.is ∙ (λ i. Ok (made (record { condition = sym condition i; body = sym body i })))
