use Rattle.std.proofs.Common.{map, drop}
use Rattle.qs_tac.specs.TreeOf.{function_tree}
use Rattle.qs_emit_selection.proofs.UnitLaws.{GivesLabels}
use Rattle.qs_emit_selection.proofs.selection.first_labels.Given as goal

abbrev pub invariant-loop-f : goal.invariant-loop-f
invariant-loop-f l = GivesLabels (map function_tree l.functions) l.at.items l.end (map function_tree (drop l.f-index l.functions))
