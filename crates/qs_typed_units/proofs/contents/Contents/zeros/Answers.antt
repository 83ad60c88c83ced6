use Rattle.std.proofs.Common.{◌≡◌, ◌++◌, ◌∷◌, [], ◌∙◌, ap, length, rules}
use Rattle.qs_memory.specs.Memory.{byte, parts_of, times}
use Rattle.qs_memory.specs.Values.{null}
use Rattle.qs_typed_trees.specs.TreeOf.{contents_cells, pointer_width}
use Rattle.qs_typed_units.proofs.DataOrder.{zeros_more}
use Rattle.qs_typed_units.proofs.contents.Contents.zeros.Goals as goal

pub returns : goal.returns
returns c =
    let l : length c.expect_bytes.new.self.bytes.items ≡ c.len.result = search rules in
    zeros_more (contents_cells c.expect_bytes.new.self.whole.items) c.expect_bytes.new.self.bytes.items c.resize.new.self.items c.len.result c.args.n c.expect_bytes.new.self.nulls
    (parts_of null 0 pointer_width) c.in_ok-expect_bytes.ensures.nulls l (search rules)
    ∙ ap (λ x. x ++ times c.args.n (byte 0 ∷ [])) c.in_ok-expect_bytes.ensures.cells
