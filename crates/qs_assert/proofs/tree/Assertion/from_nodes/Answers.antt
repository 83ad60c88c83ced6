use Rattle.qs_assert.proofs.NodeListLaws.{assertion_is, assertion_kept}
use Rattle.qs_assert.proofs.tree.Assertion.from_nodes.Goals as goal

pub invariant_of-result : goal.invariant_of-result
invariant_of-result c = assertion_kept _ _ c.requires.1

pub returns : goal.returns
returns c = λ tree e. assertion_is _ tree e
