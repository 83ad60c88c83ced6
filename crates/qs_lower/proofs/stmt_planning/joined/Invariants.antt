use Rattle.std.proofs.Common.{◌≡◌, length, map}
use Rattle.std.specs.Vec.Iter.{into_iter_items, into_iter_len}
use Rattle.qs_lower.specs.StmtPlans.{stmt_part, joined_to, all_before}
use Rattle.qs_lower.proofs.stmt_planning.joined.Given as goal

-- what is kept of those so far, and the rest, give the whole
abbrev pub invariant-loop-s : goal.invariant-loop-s
invariant-loop-s l = record {
  whole :
      all_before (map stmt_part l.kept.items) (joined_to (map stmt_part (into_iter_items l.s-iterator)) (stmt_part l.last))
      ≡ joined_to (map stmt_part (into_iter_items l.initial.s-iterator)) (stmt_part l.last);
  count : into_iter_len l.s-iterator ≡ length (into_iter_items l.s-iterator);
}
