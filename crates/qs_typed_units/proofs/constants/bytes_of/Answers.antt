use Rattle.std.proofs.Common.{map}
use Rattle.qs_memory.specs.Memory.{bytes_of}
use Rattle.qs_typed_units.specs.CellsOf.{cell_tree}
use Rattle.qs_typed_units.proofs.DataOrder.{byte_more}
use Rattle.qs_typed_nodes.proofs.Loops.{pushed}
use Rattle.qs_typed_units.proofs.constants.bytes_of.Goals as goal

pub loop-preserved : goal.loop-preserved
loop-preserved c =
    byte_more c.args.size c.loop.counter c.loop.rest (map cell_tree c.push.new.self.items) (map cell_tree c.loop.cells.items) (bytes_of c.args.size c.args.n) c.loop-test.true
    (pushed cell_tree c.push.new.self.items c.loop.cells.items _ c.in_ok-push.ensures.items) c.loop.invariant
