use Rattle.qs_assert.proofs.ViewLaws.{assertions_are, assertions_kept}
use Rattle.qs_assert.proofs.views.AssertionViews.from_nodes.Goals as goal

pub invariant_of-result : goal.invariant_of-result
invariant_of-result c = assertions_kept _ _ c.requires.1

pub returns : goal.returns
returns c = λ parts e. assertions_are _ parts e
