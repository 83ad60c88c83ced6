use Rattle.std.proofs.Common.{◌≡◌, ◌+◌, ◌++◌, length, map, drop}
use Rattle.qs_tac.specs.TreeOf.{instruction_tree}
use Rattle.qs_lower.specs.StmtPlans.{stmt_part, sizes_before, code_before}
use Rattle.qs_lower.specs.Ways.{exits_tree}
use Rattle.qs_lower.proofs.stmt_emission.+stmt_emission.Given as goal

-- that of those so far is put behind the code, and the rest gives the whole
abbrev pub invariant-emit_before-loop-i : goal.invariant-emit_before-loop-i
invariant-emit_before-loop-i l = record {
  code :
      map instruction_tree l.code.items ++ code_before (map stmt_part (drop l.i l.all)) (stmt_part l.last) (exits_tree l.x) (length l.code.items)
      ≡ map instruction_tree l.initial.code.items
      ++ code_before (map stmt_part l.all) (stmt_part l.last) (exits_tree l.x) (length l.initial.code.items);
  size : length l.code.items + sizes_before (map stmt_part (drop l.i l.all)) ≡ length l.initial.code.items + sizes_before (map stmt_part l.all);
}
