use Rattle.std.proofs.Common.{◌≡◌, ◌++◌, None, true, map, drop}
use Rattle.std.specs.List.{list_all}
use Rattle.qs_tac.specs.Fits.{function_fits}
use Rattle.qs_tac.specs.TreeOf.{function_tree}
use Rattle.qs_tac.specs.UnitTrees.{unit_tree}
use Rattle.qs_tac.specs.Places.{places_tree}
use Rattle.qs_emit_selection.specs.Data.{data_address}
use Rattle.qs_emit_selection.specs.Emission.{functions_items}
use Rattle.qs_emit_selection.specs.Limits.{functions_fault}
use Rattle.qs_emit_selection.proofs.selection.put_functions.Given as goal

abbrev pub invariant-loop-f : goal.invariant-loop-f
invariant-loop-f l = record {
  rest :
      l.items.items
      ++ functions_items (unit_tree l.fn.unit) (map places_tree l.fn.places) (data_address l.fn.unit.data_blocks.items) l.f
      (map function_tree (drop l.f l.fn.unit.functions.items))
      ≡ l.initial.items.items
      ++ functions_items (unit_tree l.fn.unit) (map places_tree l.fn.places) (data_address l.fn.unit.data_blocks.items) 0
      (map function_tree l.fn.unit.functions.items);
  fit : functions_fault (map places_tree l.fn.places) l.f (map function_tree (drop l.f l.fn.unit.functions.items)) ≡ None;
  fits : list_all (function_fits (unit_tree l.fn.unit)) (map function_tree (drop l.f l.fn.unit.functions.items)) ≡ true;
}
