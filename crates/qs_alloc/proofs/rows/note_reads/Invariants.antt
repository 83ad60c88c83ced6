use Rattle.std.proofs.Common.{take}
use Rattle.qs_tac.specs.TreeOf.{instruction_tree}
use Rattle.qs_tac.specs.Uses.{reads}
use Rattle.qs_alloc.specs.Rows.{NotedAll}
use Rattle.qs_alloc.proofs.rows.note_reads.Given as goal

abbrev pub invariant-loop-k : goal.invariant-loop-k
invariant-loop-k l = NotedAll (take l.k (reads (instruction_tree l.i))) l.number l.initial.rows.items l.rows.items
