use Rattle.std.proofs.Common.{Ok, ap, ◌∙◌, sym}
use Rattle.qs_assert.specs.Trees.{assertions_of}
use Rattle.qs_assert.specs.Reading.{assertions_of-list}
use Rattle.qs_entail.specs.Faults.{members_of}
use Rattle.qs_entail.proofs.PartLaws.{greatest_parts}
use Rattle.qs_entail.proofs.parts.members.Goals as goal

pub from_nodes-requires : goal.from_nodes-requires
from_nodes-requires c =
    let p = greatest_parts _ _ _ c.nodes-nodes.ensures (cc) c.parts.ensures in
    (p.parts, p.are)

pub returns : goal.returns
returns c =
    let p = greatest_parts _ _ _ c.nodes-nodes.ensures (cc) c.parts.ensures in
    let all = ap assertions_of (c.from_nodes.ensures p.parts p.are) ∙ assertions_of-list p.parts in
    ap members_of p.is ∙ (λ i. Ok (sym all i))
