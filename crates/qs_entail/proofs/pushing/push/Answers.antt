use Rattle.std.proofs.Common.{◌++◌, List, ap, ◌∙◌, subst, Result}
use Rattle.qs_assert.specs.Trees.{CondTree}
use Rattle.qs_entail.specs.Answers.{FollowsAs}
use Rattle.qs_entail.specs.Building.{Stop}
use Rattle.qs_entail.specs.Flattening.{flat}
use Rattle.qs_entail.specs.Pushing.{Known}
use Rattle.qs_entail.specs.View.{known_view}
use Rattle.qs_entail.proofs.Wholes.{is_pushed}
use Rattle.qs_entail.proofs.pushing.push.Goals as goal

pub returns-clause-step : goal.returns-clause-step
returns-clause-step c =
    let list = c.deref.ensures.value ∙ (c.in_ok-put_flat.ensures ∙ ap (λ (l : List CondTree). l ++ flat c.args.negated c.args.c.now) c.new-list.ensures.items) in
    subst (λ (r : Result Known Stop). FollowsAs (λ _. known_view c.push_wholes.new.known) c.push_wholes.result r)
    (is_pushed c.args.negated c.args.c.now c.deref.result.now (known_view c.args.known.now) list) c.push_wholes.ensures.step
