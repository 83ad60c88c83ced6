use Rattle.std.proofs.Common.{◌≡◌, ◌++◌, map, drop}
use Rattle.qs_core.specs.Trees.{stmts_of}
use Rattle.qs_core.specs.TreeOf.{core_stmt, function_tree}
use Rattle.qs_core.specs.Outline.{outline_parts}
use Rattle.qs_core.proofs.outline.+put_stmt.Given as goal

-- those so far are written, and the rest gives the whole
abbrev pub invariant-put_parts-loop-s : goal.invariant-put_parts-loop-s
invariant-put_parts-loop-s l = record {
  number : l.part ≡ l.s-index;
  text :
      l.out.items ++ outline_parts (map function_tree l.functions) (function_tree l.f) l.path l.part (stmts_of (map core_stmt (drop l.s-index l.parts)))
      ≡ l.fn.out.items ++ outline_parts (map function_tree l.functions) (function_tree l.f) l.path 0 (stmts_of (map core_stmt l.parts));
}
