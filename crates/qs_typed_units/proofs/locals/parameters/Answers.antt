use Rattle.std.proofs.Common.{[], ◌∷◌, Some, map, refl, ap, ◌∙◌}
use Rattle.qs_syntax.specs.TreeOf.{parameter_tree}
use Rattle.qs_typed_nodes.specs.KnownFunctions.{parameter_known, parameters_known}
use Rattle.qs_typed_nodes.specs.KnownOf.{known_tree}
use Rattle.qs_typed_nodes.proofs.Loops.{drop_item, turn, finish, all_elements}
use Rattle.qs_typed_units.proofs.locals.parameters.Goals as goal

pub loop-p-preserved : goal.loop-p-preserved
loop-p-preserved c =
    turn ◌∷◌ (λ p. parameter_known (known_tree c.args.k.now) (parameter_tree p))
    (λ ps. parameters_known (known_tree c.args.k.now) (map parameter_tree ps)) c.args.ps.now c.loop-p.p-index c.p-item.result
    (c.loop-p.all.items) (c.push.new.self.items) (c.in_ok-parameter.field-0) _ c.loop-p.invariant (drop_item c.args.ps.now c.loop-p.p-index c.p-item.result c.loop-p-test.true c.p-item.is)
    (λ ys. refl) c.in_ok-parameter.ensures (c.in_ok-push.ensures.items)

pub returns : goal.returns
returns c =
    finish ◌∷◌ (λ ps. parameters_known (known_tree c.args.k.now) (map parameter_tree ps)) c.args.ps.now c.loop-p.p-index (c.loop-p.all.items) [] _ c.loop-p.invariant c.loop-p-test.false refl
    ∙ ap Some (all_elements (c.loop-p.all.items))
