use Rattle.std.proofs.Common.{Some, map, refl, ap, ◌∙◌}
use Rattle.qs_meaning.specs.Typed.{pointer_to, nothing, in_order}
use Rattle.qs_typed_nodes.specs.KnownStatements.{piece_set_known, pieces_set_known}
use Rattle.qs_typed_nodes.specs.KnownOf.{known_tree}
use Rattle.qs_typed_nodes.specs.PieceOf.{piece_tree}
use Rattle.qs_typed_trees.specs.TreeOf.{effect_tree, object_tree}
use Rattle.qs_typed_nodes.proofs.Loops.{drop_item, pushed, turn, finish, all_effects}
use Rattle.qs_typed_bodies.proofs.initialisers.pieces_effects.Goals as goal

pub loop-p-preserved : goal.loop-p-preserved
loop-p-preserved c =
    turn in_order (λ p. piece_set_known (known_tree c.args.k.now) (pointer_to (object_tree c.args.base)) (piece_tree p))
    (λ ps. pieces_set_known (known_tree c.args.k.now) (pointer_to (object_tree c.args.base)) (map piece_tree ps)) c.args.ps.now c.loop-p.p-index c.p-item.result
    (map effect_tree c.loop-p.all.items) (map effect_tree c.push.new.self.items) (effect_tree c.in_ok-piece_set.field-0) _ c.loop-p.invariant (drop_item c.args.ps.now c.loop-p.p-index c.p-item.result c.loop-p-test.true c.p-item.is)
    (λ ys. refl) c.in_ok-piece_set.ensures (pushed effect_tree c.push.new.self.items c.loop-p.all.items c.in_ok-piece_set.field-0 c.in_ok-push.ensures.items)

pub returns : goal.returns
returns c =
    finish in_order (λ ps. pieces_set_known (known_tree c.args.k.now) (pointer_to (object_tree c.args.base)) (map piece_tree ps)) c.args.ps.now c.loop-p.p-index (map effect_tree c.loop-p.all.items) nothing _ c.loop-p.invariant c.loop-p-test.false refl
    ∙ ap Some (all_effects (map effect_tree c.loop-p.all.items))
