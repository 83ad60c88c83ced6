use Rattle.std.proofs.Common.{Some, map, refl, ap, ◌∙◌}
use Rattle.qs_syntax.specs.TreeOf.{variable_tree}
use Rattle.qs_meaning.specs.Typed.{nothing, in_order}
use Rattle.qs_typed_nodes.specs.KnownStatements.{variable_known, variables_known}
use Rattle.qs_typed_nodes.specs.KnownOf.{known_tree}
use Rattle.qs_typed_trees.specs.TreeOf.{effect_tree}
use Rattle.qs_typed_nodes.proofs.Loops.{drop_item, pushed, turn, finish, all_effects}
use Rattle.qs_typed_bodies.proofs.initialisers.variables_effects.Goals as goal

pub loop-v-preserved : goal.loop-v-preserved
loop-v-preserved c =
    turn in_order (λ v. variable_known (known_tree c.args.k.now) (variable_tree v))
    (λ vs. variables_known (known_tree c.args.k.now) (map variable_tree vs)) c.args.vs.now c.loop-v.v-index c.v-item.result
    (map effect_tree c.loop-v.all.items) (map effect_tree c.push.new.self.items) (effect_tree c.in_ok-variable.field-0) _ c.loop-v.invariant (drop_item c.args.vs.now c.loop-v.v-index c.v-item.result c.loop-v-test.true c.v-item.is)
    (λ ys. refl) c.in_ok-variable.ensures (pushed effect_tree c.push.new.self.items c.loop-v.all.items c.in_ok-variable.field-0 c.in_ok-push.ensures.items)

pub returns : goal.returns
returns c =
    finish in_order (λ vs. variables_known (known_tree c.args.k.now) (map variable_tree vs)) c.args.vs.now c.loop-v.v-index (map effect_tree c.loop-v.all.items) nothing _ c.loop-v.invariant c.loop-v-test.false refl
    ∙ ap Some (all_effects (map effect_tree c.loop-v.all.items))
