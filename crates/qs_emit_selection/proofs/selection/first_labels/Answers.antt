use Rattle.std.proofs.Common.{map, drop}
use Rattle.qs_tac.specs.TreeOf.{function_tree}
use Rattle.qs_emit_selection.proofs.UnitLaws.{none_left, labels_end}
use Rattle.qs_emit_selection.proofs.selection.first_labels.Goals as goal

pub returns : goal.returns
returns c =
    let functions = c.args.functions.now in
    labels_end (map function_tree functions) (record { at = c.loop-f.at; end = c.loop-f.end })
    (map function_tree (drop c.loop-f.f-index functions)) (none_left functions c.loop-f.f-index c.loop-f-test.false)
    c.loop-f.invariant
