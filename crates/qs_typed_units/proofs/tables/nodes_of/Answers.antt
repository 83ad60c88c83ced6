use Rattle.std.proofs.Common.{◌++◌, ◌∷◌, [], drop, ◌+◌, sym, ap, ◌∙◌, append_assoc}
use Rattle.qs_typed_nodes.proofs.Loops.{drop_got}
use Rattle.qs_typed_units.proofs.tables.nodes_of.Goals as goal

pub loop-i-preserved : goal.loop-i-preserved
loop-i-preserved c =
    c.loop-i.invariant
    ∙ ap (λ l. c.loop-i.nodes.items ++ l) (drop_got c.args.set.now.keys c.loop-i.i c.index.result.now c.index.ensures)
    ∙ sym (append_assoc c.loop-i.nodes.items (c.index.result.now ∷ []) (drop (c.loop-i.i + 1) c.args.set.now.keys))
    ∙ ap (λ l. l ++ drop (c.loop-i.i + 1) c.args.set.now.keys) (sym c.in_ok-push.ensures.items)
