use Rattle.std.proofs.Common.{ap, ◌∙◌}
use Rattle.qs_assert.specs.Listing.{term_heads, term_nodes}
use Rattle.qs_assert.proofs.ShapeLaws.{heads_are}
use Rattle.qs_assert.proofs.tree.Term.from_inner.Goals as goal

pub from_nodes-requires : goal.from_nodes-requires
from_nodes-requires c = (c.requires.0, c.in_ok-list.ensures ∙ (ap term_heads c.requires.1 ∙ heads_are (term_nodes c.requires.0)))

pub returns : goal.returns
returns c = λ t e. c.from_nodes.ensures t (c.in_ok-list.ensures ∙ (ap term_heads e ∙ heads_are (term_nodes t)))
