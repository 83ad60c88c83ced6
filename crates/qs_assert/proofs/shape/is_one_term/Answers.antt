use Rattle.std.proofs.Common.{sym, ◌∙◌, arith}
use Rattle.qs_assert.specs.declared.node.TermNode.TheVariants.{Sub}
use Rattle.qs_assert.proofs.ShapeLaws.{shape_stop}
use Rattle.qs_assert.proofs.shape.is_one_term.Goals as goal

pub returns-then-due-eq0 : goal.returns-then-due-eq0
returns-then-due-eq0 c =
    sym (c.loop-i.invariant.same ∙ shape_stop c.args.nodes.now c.loop-i.i c.loop-i.due Sub (omega arith) c.if-due-eq0.true)
