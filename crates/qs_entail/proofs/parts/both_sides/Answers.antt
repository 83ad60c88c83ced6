use Rattle.std.proofs.Common.{◌∙◌}
use Rattle.qs_assert.specs.Listing.{inner_term}
use Rattle.qs_assert.proofs.FrontLaws.{term_front, first_is, others_are}
use Rattle.qs_entail.proofs.parts.both_sides.Goals as goal

pub from_inner-requires : goal.from_inner-requires
from_inner-requires c =
    (c.requires.0, c.split_tree.ensures.first ∙ first_is (inner_term c.requires.0) (inner_term c.requires.1.0) _ (term_front c.requires.0) c.requires.1.1)

pub from_inner-requires-2 : goal.from_inner-requires-2
from_inner-requires-2 c =
    (c.requires.1.0, c.split_tree.ensures.others ∙ others_are (inner_term c.requires.0) (inner_term c.requires.1.0) _ (term_front c.requires.0) c.requires.1.1)

pub returns : goal.returns
returns c = λ t u e. (
  c.in_ok-left.ensures t (c.split_tree.ensures.first ∙ first_is (inner_term t) (inner_term u) _ (term_front t) e),
  c.in_ok-right.ensures u (c.split_tree.ensures.others ∙ others_are (inner_term t) (inner_term u) _ (term_front t) e),
)
