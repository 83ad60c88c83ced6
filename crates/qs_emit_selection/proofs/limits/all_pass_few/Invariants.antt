use Rattle.std.proofs.Common.{◌≡◌, map, drop}
use Rattle.std.specs.List.{list_all}
use Rattle.qs_tac.specs.TreeOf.{instruction_tree}
use Rattle.qs_emit_selection.specs.Limits.{passes_few}
use Rattle.qs_emit_selection.proofs.limits.all_pass_few.Given as goal

abbrev pub invariant-loop-i : goal.invariant-loop-i
invariant-loop-i l =
    list_all passes_few (map instruction_tree (drop l.i-index l.code)) ≡ list_all passes_few (map instruction_tree l.code)
