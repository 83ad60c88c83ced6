use Rattle.qs_assert.proofs.VariableLaws.{mentioned, not_mentioned}
use Rattle.qs_assert.proofs.variables.mentions.Goals as goal

pub returns-clause-test : goal.returns-clause-test
returns-clause-test c = mentioned c.args.a.now c.args.x.now _ _ c.nodes.ensures c.some_mentions.ensures

pub returns-clause-value : goal.returns-clause-value
returns-clause-value c =
    not_mentioned c.args.a.now c.args.x.now c.some_mentions.result (mentioned c.args.a.now c.args.x.now _ _ c.nodes.ensures c.some_mentions.ensures)
