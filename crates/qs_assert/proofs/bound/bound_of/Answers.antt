use Rattle.std.proofs.Common.{ap, ◌∙◌, [], ◌∷◌, ℕ}
use Rattle.qs_assert.specs.Values.{plus, finite}
use Rattle.qs_assert.specs.Stacks.{joined_known, amount_known}
use Rattle.qs_assert.proofs.TableLaws.{bound_is}
use Rattle.qs_assert.proofs.bound.bound_of.Goals as goal

pub returns : goal.returns
returns c =
    let cost = c.finite-cost.ensures ∙ ap (λ (n : ℕ). amount_known (finite n)) (c.from.ensures ∙ c.cost.ensures) in
    c.joined.ensures ∙ ((λ i. joined_known plus (finite 0) (cost i ∷ (c.in_ok-amount.ensures i ∷ []))) ∙ bound_is c.args.args.now c.args.costs.now c.args.defines.now c.args.pre.now c.args.main.0)
