use Rattle.std.proofs.Common.{◌≡◌, ◌++◌, true, map, drop}
use Rattle.std.specs.List.{list_all}
use Rattle.qs_tac.specs.TreeOf.{instruction_tree, function_tree}
use Rattle.qs_tac.specs.UnitTrees.{unit_tree}
use Rattle.qs_tac.specs.Fits.{instruction_fits}
use Rattle.qs_emit_selection.specs.ContextOf.{context_tree, labels_tree}
use Rattle.qs_emit_selection.specs.Emission.{body_items}
use Rattle.qs_emit_selection.specs.Limits.{passes_few}
use Rattle.qs_emit_selection.proofs.functions.put_body.Given as goal

abbrev pub invariant-loop-i : goal.invariant-loop-i
invariant-loop-i l = record {
  rest :
      l.items.items ++ body_items (context_tree l.fn.c) (labels_tree l.fn.c) l.k (map instruction_tree (drop l.i-index l.fn.c.function.now.code.items))
      ≡ l.initial.items.items
      ++ body_items (context_tree l.fn.c) (labels_tree l.fn.c) 0 (map instruction_tree l.fn.c.function.now.code.items);
  at : l.k ≡ l.i-index;
  few : list_all passes_few (map instruction_tree (drop l.i-index l.fn.c.function.now.code.items)) ≡ true;
  fits :
      list_all (instruction_fits (unit_tree l.fn.c.unit.now) (function_tree l.fn.c.function.now))
      (map instruction_tree (drop l.i-index l.fn.c.function.now.code.items))
      ≡ true;
}
