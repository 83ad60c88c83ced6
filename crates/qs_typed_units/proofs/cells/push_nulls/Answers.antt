use Rattle.std.proofs.Common.{map}
use Rattle.qs_memory.specs.Memory.{parts_of}
use Rattle.qs_memory.specs.Values.{null}
use Rattle.qs_typed_units.specs.CellsOf.{cell_tree}
use Rattle.qs_typed_trees.specs.TreeOf.{pointer_width}
use Rattle.qs_typed_units.proofs.DataOrder.{once_more}
use Rattle.qs_typed_units.proofs.cells.push_nulls.Goals as goal

pub loop-preserved : goal.loop-preserved
loop-preserved c =
    once_more (map cell_tree c.push_pointer.new.cells.items) (map cell_tree c.loop.cells.items) (map cell_tree c.args.cells.now.items) (parts_of null 0 pointer_width) c.loop.counter
    c.in_ok-push_pointer.ensures c.loop.invariant
