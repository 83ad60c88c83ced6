use Rattle.std.proofs.Common.{◌≡◌, drop}
use Rattle.std.proofs.Common.{map}
use Rattle.qs_tac.specs.TreeOf.{instruction_tree}
use Rattle.qs_tac.specs.Places.{lists}
use Rattle.qs_alloc.specs.Verification.{keeps_from}
use Rattle.qs_alloc.proofs.verification.all_keep.Given as goal

abbrev pub invariant-loop-index : goal.invariant-loop-index
invariant-loop-index l = keeps_from (map instruction_tree l.code) l.at (lists l.needed) l.index (map instruction_tree (drop l.index l.code)) ≡ keeps_from (map instruction_tree l.code) l.at (lists l.needed) 0 (map instruction_tree l.code)
