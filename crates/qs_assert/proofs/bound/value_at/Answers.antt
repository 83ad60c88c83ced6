use Rattle.std.proofs.Common.{ap, ◌∙◌}
use Rattle.qs_assert.specs.Evaluations.{Amounts}
use Rattle.qs_assert.specs.Tables.{reckoned}
use Rattle.qs_assert.proofs.TableLaws.{value_is}
use Rattle.qs_assert.proofs.bound.value_at.Goals as goal

pub returns : goal.returns
returns c =
    c.in_ok-amount.ensures ∙ (ap (λ (known : Amounts). reckoned c.args.args.now c.args.costs.now known c.args.a.now) c.in_ok-known.ensures ∙ value_is c.args.args.now c.args.costs.now c.args.defines.now c.args.a.now)
