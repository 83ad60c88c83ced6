use Rattle.qs_assert.proofs.SamenessLaws.{term_exact}
use Rattle.qs_assert.proofs.tree.Term.same.Goals as goal

pub returns-clause-exact : goal.returns-clause-exact
returns-clause-exact c = term_exact c.args.self.now c.args.other.now _ _ _ c.nodes.ensures c.nodes-2.ensures c.same_terms.ensures
