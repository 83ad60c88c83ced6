use Rattle.qs_assert.proofs.NodeListLaws.{cond_is, cond_kept}
use Rattle.qs_assert.proofs.tree.Cond.from_nodes.Goals as goal

pub invariant_of-result : goal.invariant_of-result
invariant_of-result c = cond_kept _ _ c.requires.1

pub returns : goal.returns
returns c = λ tree e. cond_is _ tree e
