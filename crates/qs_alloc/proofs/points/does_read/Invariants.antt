use Rattle.std.proofs.Common.{◌≡◌, drop}
use Rattle.qs_tac.specs.TreeOf.{instruction_tree}
use Rattle.qs_tac.specs.Uses.{reads}
use Rattle.qs_alloc.specs.Verification.{is_among}
use Rattle.qs_alloc.proofs.points.does_read.Given as goal

abbrev pub invariant-loop-k : goal.invariant-loop-k
invariant-loop-k l = is_among (drop l.k (reads (instruction_tree l.i))) l.t ≡ is_among (reads (instruction_tree l.i)) l.t
