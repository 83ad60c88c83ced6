use Rattle.std.proofs.Common.{◌≡◌, false, map, drop}
use Rattle.qs_tac.specs.TreeOf.{instruction_tree}
use Rattle.qs_emit_selection.specs.Emission.{ends_from}
use Rattle.qs_emit_selection.proofs.instructions.ends_with_return.Given as goal

abbrev pub invariant-loop-i : goal.invariant-loop-i
invariant-loop-i l =
    ends_from l.is_return (map instruction_tree (drop l.i-index l.code)) ≡ ends_from false (map instruction_tree l.code)
