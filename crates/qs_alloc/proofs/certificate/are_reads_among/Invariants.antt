use Rattle.std.proofs.Common.{◌≡◌, drop}
use Rattle.std.specs.List.{list_all}
use Rattle.qs_tac.specs.TreeOf.{instruction_tree}
use Rattle.qs_tac.specs.Uses.{reads}
use Rattle.qs_alloc.specs.Verification.{is_among}
use Rattle.qs_alloc.proofs.certificate.are_reads_among.Given as goal

abbrev pub invariant-loop-k : goal.invariant-loop-k
invariant-loop-k l = list_all (is_among l.earlier) (drop l.k (reads (instruction_tree l.i))) ≡ list_all (is_among l.earlier) (reads (instruction_tree l.i))
