use Rattle.std.proofs.Common.{◌≡◌, length, subst, Option, arith}
use Rattle.std.proofs.lemmas.Grind.{common_steps}
use Rattle.qs_ports.specs.declared.memory.span.Span.{Span}
use Rattle.qs_ports.specs.Shelf.{OptionWithin}
use Rattle.qs_ports.proofs.ShelfChanges.{current_lies}
use Rattle.qs_ports.proofs.memory.shelf.Shelf.read.Goals as goal

pub content-content-requires : goal.content-content-requires
content-content-requires c =
    let s = c.args.self.now in
    let same : length s.cells.parts.items ≡ length s.cells.bytes.items = grind (arith, common_steps) in
    let P : Option Span → Type 0 = λ o. OptionWithin o (length s.cells.bytes.items) in
    subst P c.in-Some.is (current_lies s.reading s.cells s.reads same)
