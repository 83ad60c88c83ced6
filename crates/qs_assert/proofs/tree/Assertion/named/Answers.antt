use Rattle.std.proofs.Common.{List, [], ◌∷◌, ap, ◌∙◌, ℕ}
use Rattle.qs_assert.specs.declared.node.AssertionNode.TheVariants.{Named}
use Rattle.qs_assert.specs.declared.node.Node.TheVariants.{Assertion}
use Rattle.qs_assert.specs.Trees as trees
use Rattle.qs_assert.proofs.tree.Assertion.named.Goals as goal

pub from_nodes-requires : goal.from_nodes-requires
from_nodes-requires c = (trees.named c.args.name.now, c.in_ok-nodes.ensures ∙ ap (λ (n : List ℕ). Assertion (Named n) ∷ []) c.in_ok-copy.ensures)

pub returns : goal.returns
returns c =
    c.from_nodes.ensures (trees.named c.args.name.now) (c.in_ok-nodes.ensures ∙ ap (λ (n : List ℕ). Assertion (Named n) ∷ []) c.in_ok-copy.ensures)
