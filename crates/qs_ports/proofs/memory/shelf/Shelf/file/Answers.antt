use Rattle.std.proofs.Common.{◌≡◌, length, rules, arith}
use Rattle.std.proofs.lemmas.Grind.{common_steps}
use Rattle.qs_ports.specs.Cells.{spans_of}
use Rattle.qs_ports.proofs.ShelfChanges.{cells_within, found_lies}
use Rattle.qs_ports.proofs.memory.shelf.Shelf.file.Goals as goal

pub content-requires : goal.content-requires
content-requires c =
    let cells = c.args.self.now.cells in
    let same : length cells.parts.items ≡ length cells.bytes.items = grind (arith, common_steps) in
    found_lies cells.bytes.items (spans_of cells.parts.items) c.args.name.now c.in_ok-file.file _ (search rules) (cells_within cells same)
