use Rattle.std.proofs.Common.{map}
use Rattle.qs_memory.specs.Memory.{byte, parts_of}
use Rattle.qs_memory.specs.Values.{null}
use Rattle.qs_typed_trees.specs.TreeOf.{contents_cells, pointer_width}
use Rattle.qs_typed_units.proofs.DataOrder.{nulls_more}
use Rattle.qs_typed_units.proofs.contents.Contents.nulls.Goals as goal

pub returns : goal.returns
returns c =
    nulls_more (contents_cells c.args.self.now.whole.items) (map byte c.args.self.now.bytes.items) c.args.self.now.nulls c.args.n c.in_ok-self.field-0 (parts_of null 0 pointer_width) c.in_ok-self.ensures
