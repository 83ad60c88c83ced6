use Rattle.std.proofs.Common.{◌≡◌, drop}
use Rattle.std.proofs.Common.{map}
use Rattle.std.specs.List.{list_all, slice_get}
use Rattle.qs_tac.specs.TreeOf.{instruction_tree}
use Rattle.qs_tac.specs.Uses.{reads}
use Rattle.qs_alloc.specs.Verification.{is_apart_at_entry}
use Rattle.qs_alloc.proofs.sharing.are_read_apart.Given as goal

abbrev pub invariant-loop-k : goal.invariant-loop-k
invariant-loop-k l = list_all (is_apart_at_entry l.parameters l.at (slice_get (map instruction_tree l.code) 0) l.later) (drop l.k (reads (instruction_tree l.i))) ≡ list_all (is_apart_at_entry l.parameters l.at (slice_get (map instruction_tree l.code) 0) l.later) (reads (instruction_tree l.i))
