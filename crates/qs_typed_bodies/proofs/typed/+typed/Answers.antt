use Rattle.std.proofs.Common.{[], ◌∷◌, ◌++◌, map, ap, ◌∙◌, arith}
use Rattle.std.proofs.lemmas.List.{drop_more}
use Rattle.qs_typed_forms.specs.FormOf.{typed_tree}
use Rattle.qs_typed_nodes.specs.KnownOf.{known_tree}
use Rattle.qs_typed_trees.specs.TreeOf.{argument_tree}
use Rattle.qs_typed_nodes.proofs.Loops.{drop_item, pushed, arguments_turn, arguments_finish}
use Rattle.qs_typed_bodies.proofs.typed.+typed.Goals as goal

pub arguments-loop-i-preserved : goal.arguments-loop-i-preserved
arguments-loop-i-preserved t c =
    arguments_turn (known_tree c.args.k.now) c.args.parameters.now c.args.es.now c.loop-i.i _ c.index-es-i.result (typed_tree c.in_ok-a.a)
    (map argument_tree c.loop-i.given.items) (map argument_tree c.push.new.self.items) _ c.loop-i.invariant
    (drop_more c.args.parameters.now c.loop-i.i _ (omega arith))
    (drop_item c.args.es.now c.loop-i.i c.index-es-i.result (omega arith) c.index-es-i.is) c.in_ok-a.ensures
    (pushed argument_tree c.push.new.self.items c.loop-i.given.items c.in_ok-r.r c.in_ok-push.ensures.items
    ∙ ap (λ r. map argument_tree c.loop-i.given.items ++ r ∷ []) c.in_ok-r.ensures)

pub arguments-returns : goal.arguments-returns
arguments-returns t c =
    arguments_finish (known_tree c.args.k.now) c.args.parameters.now c.args.es.now c.loop-i.i (map argument_tree c.loop-i.given.items) _ c.loop-i.invariant (omega arith) (omega arith)
