use Rattle.std.proofs.Common.{ℤ, [], ◌∷◌, ap, ◌∙◌, to_z-of_z}
use Rattle.qs_assert.specs.declared.node.TermNode.TheVariants.{Number}
use Rattle.qs_assert.specs.Trees as trees
use Rattle.qs_assert.proofs.tree.Term.number.Goals as goal

pub from_nodes-requires : goal.from_nodes-requires
from_nodes-requires c =
    (trees.number c.args.k, c.in_ok-nodes.ensures ∙ ap (λ (k : ℤ). Number k ∷ []) (to_z-of_z c.ranges.k))

pub returns : goal.returns
returns c =
    c.from_nodes.ensures (trees.number c.args.k) (c.in_ok-nodes.ensures ∙ ap (λ (k : ℤ). Number k ∷ []) (to_z-of_z c.ranges.k))
