use Rattle.std.proofs.Common.{◌≡◌, ◌++◌, map}
use Rattle.qs_memory.specs.Memory.{times, parts_of}
use Rattle.qs_memory.specs.Values.{null}
use Rattle.qs_typed_units.specs.CellsOf.{cell_tree}
use Rattle.qs_typed_trees.specs.TreeOf.{pointer_width}
use Rattle.qs_typed_units.proofs.cells.push_nulls.Given as goal

abbrev pub invariant-loop : goal.invariant-loop
invariant-loop l = map cell_tree l.cells.items ≡ map cell_tree l.initial.cells.items ++ times l.counter (parts_of null 0 pointer_width)
