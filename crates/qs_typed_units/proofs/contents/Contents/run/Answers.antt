use Rattle.std.proofs.Common.{◌∷◌, [], ap, ◌∙◌}
use Rattle.qs_memory.specs.BlankOf.{blank_tree}
use Rattle.qs_memory.specs.Memory.{blank_cells, byte, parts_of}
use Rattle.qs_memory.specs.Values.{null}
use Rattle.qs_typed_units.specs.CellsOf.{contents_tree}
use Rattle.qs_typed_trees.specs.TreeOf.{pointer_width}
use Rattle.qs_typed_units.proofs.DataOrder.{at_once, nulls_tree, zeros_tree}
use Rattle.qs_typed_units.proofs.contents.Contents.run.Goals as goal

pub returns-in_ok-zeros-in-Zeros : goal.returns-in_ok-zeros-in-Zeros
returns-in_ok-zeros-in-Zeros c =
    at_once (contents_tree c.zeros.new.self) (contents_tree c.args.self.now) (blank_cells (blank_tree c.args.part.now)) (byte 0 ∷ []) c.args.n c.in-Zeros.k c.in_ok-product-in-Zeros.field-0
    (ap blank_cells (ap blank_tree c.in-Zeros.is ∙ zeros_tree c.in-Zeros.k)) c.in_ok-product-in-Zeros.ensures c.in_ok-zeros-in-Zeros.ensures

pub returns-in_ok-nulls-in-Nulls : goal.returns-in_ok-nulls-in-Nulls
returns-in_ok-nulls-in-Nulls c =
    at_once (contents_tree c.nulls.new.self) (contents_tree c.args.self.now) (blank_cells (blank_tree c.args.part.now)) (parts_of null 0 pointer_width) c.args.n c.in-Nulls.k
    c.in_ok-product-in-Nulls.field-0 (ap blank_cells (ap blank_tree c.in-Nulls.is ∙ nulls_tree c.in-Nulls.k)) c.in_ok-product-in-Nulls.ensures c.in_ok-nulls-in-Nulls.ensures
