use Rattle.qs_assert.proofs.NodeListLaws.{term_is, term_kept}
use Rattle.qs_assert.proofs.tree.Term.from_nodes.Goals as goal

pub invariant_of-result : goal.invariant_of-result
invariant_of-result c = term_kept _ _ c.requires.1

pub returns : goal.returns
returns c = λ tree e. term_is _ tree e
