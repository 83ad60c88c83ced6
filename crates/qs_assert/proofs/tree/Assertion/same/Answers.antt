use Rattle.qs_assert.proofs.SamenessLaws.{assertion_exact}
use Rattle.qs_assert.proofs.tree.Assertion.same.Goals as goal

pub returns-clause-exact : goal.returns-clause-exact
returns-clause-exact c = assertion_exact c.args.self.now c.args.other.now _ _ _ c.nodes.ensures c.nodes-2.ensures c.same_nodes.ensures
