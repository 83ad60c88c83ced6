use Rattle.std.proofs.Common.{◌≡◌, drop}
use Rattle.std.specs.List.{list_all}
use Rattle.qs_tac.specs.TreeOf.{instruction_tree}
use Rattle.qs_tac.specs.Uses.{reads}
use Rattle.qs_alloc.specs.Verification.{is_apart}
use Rattle.qs_alloc.proofs.sharing.is_apart_from_reads.Given as goal

abbrev pub invariant-loop-k : goal.invariant-loop-k
invariant-loop-k l = list_all (is_apart l.at l.t) (drop l.k (reads (instruction_tree l.i))) ≡ list_all (is_apart l.at l.t) (reads (instruction_tree l.i))
