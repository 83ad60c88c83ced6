use Rattle.std.proofs.Common.{◌≡◌, map, drop}
use Rattle.std.specs.List.{list_any}
use Rattle.qs_tac.specs.TreeOf.{instruction_tree}
use Rattle.qs_frames.specs.Layout.{calls_function}
use Rattle.qs_frames.proofs.parts.any_calls_function.Given as goal

abbrev pub invariant-loop-i : goal.invariant-loop-i
invariant-loop-i l =
    list_any calls_function (map instruction_tree (drop l.i-index l.code)) ≡ list_any calls_function (map instruction_tree l.code)
