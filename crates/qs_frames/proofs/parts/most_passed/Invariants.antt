use Rattle.std.proofs.Common.{◌≡◌, max, map, drop}
use Rattle.qs_tac.specs.TreeOf.{instruction_tree}
use Rattle.qs_tac.specs.Sizes.{most_passed}
use Rattle.qs_frames.proofs.parts.most_passed.Given as goal

abbrev pub invariant-loop-i : goal.invariant-loop-i
invariant-loop-i l =
    max l.most (most_passed (map instruction_tree (drop l.i-index l.code))) ≡ most_passed (map instruction_tree l.code)
