use Rattle.std.proofs.Common.{ap, ◌∙◌, arith, drop}
use Rattle.qs_assert.specs.Views.{front_length}
use Rattle.qs_assert.proofs.FrontLaws.{none_needed}
use Rattle.qs_assert.proofs.views.tree_length.Goals as goal

pub returns-then-needed-eq0-clause-value : goal.returns-then-needed-eq0-clause-value
returns-then-needed-eq0-clause-value c =
    let none = ap (front_length (drop c.loop-i.i c.args.nodes.now)) c.if-needed-eq0.true ∙ none_needed (drop c.loop-i.i c.args.nodes.now) in
    let all = c.loop-i.invariant.all in
    omega (arith, none, all)
