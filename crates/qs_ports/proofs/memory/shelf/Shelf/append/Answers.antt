use Rattle.std.proofs.Common.{◌≡◌, ◌+◌, length, false, refl, rules, arith, length-append, ap}
use Rattle.std.proofs.lemmas.Grind.{common_steps}
use Rattle.qs_ports.specs.Cells.{Extends}
use Rattle.qs_ports.specs.Shelf.{HasFiles}
use Rattle.qs_ports.specs.ShelfView.{shelf_view}
use Rattle.qs_ports.proofs.ShelfChanges.{cells_extend, extended_current, some_files}
use Rattle.qs_ports.proofs.memory.shelf.Shelf.append.Goals as goal

pub invariant_of-self-4-clause-reads : goal.invariant_of-self-4-clause-reads
invariant_of-self-4-clause-reads c =
    let s = c.args.self.now in
    let same : length s.cells.parts.items ≡ length s.cells.bytes.items = grind (arith, common_steps) in
    let longer : Extends s.cells c.extend.new.self c.args.piece.now = search rules in
    let not_full : s.full ≡ false = search rules in
    let some : HasFiles s.cells = s.writes c.requires not_full in
    let end : c.len-end.result ≡ length s.cells.bytes.items = grind (arith, common_steps) in
    let to : c.len.result ≡ length s.cells.bytes.items + length c.args.piece.now = grind (arith, common_steps, ap length longer.bytes, length-append s.cells.bytes.items c.args.piece.now) in
    extended_current s.cells c.extend.new.self c.args.piece.now s.reading _ c.len-end.result c.len.result longer c.extended-self.ensures end to s.reads same some

pub invariant_of-self-4-clause-writes : goal.invariant_of-self-4-clause-writes
invariant_of-self-4-clause-writes c = λ w f.
    let s = c.args.self.now in
    let same : length s.cells.parts.items ≡ length s.cells.bytes.items = grind (arith, common_steps) in
    let longer : Extends s.cells c.extend.new.self c.args.piece.now = search rules in
    let not_full : s.full ≡ false = search rules in
    let some : HasFiles s.cells = s.writes c.requires not_full in
    some_files s.cells c.extend.new.self c.args.piece.now longer same some

pub returns-clause-appended : goal.returns-clause-appended
returns-clause-appended c = λ faults misses.
    let s = c.args.self.now in
    let same : length s.cells.parts.items ≡ length s.cells.bytes.items = grind (arith, common_steps) in
    let longer : Extends s.cells c.extend.new.self c.args.piece.now = search rules in
    let not_full : s.full ≡ false = search rules in
    let some : HasFiles s.cells = s.writes c.requires not_full in
    let end : c.len-end.result ≡ length s.cells.bytes.items = grind (arith, common_steps) in
    let to : c.len.result ≡ length s.cells.bytes.items + length c.args.piece.now = grind (arith, common_steps, ap length longer.bytes, length-append s.cells.bytes.items c.args.piece.now) in
    cells_extend (shelf_view s faults misses) s.cells c.extend.new.self c.args.piece.now s.reading _ s.writing c.len-end.result c.len.result _ longer c.extended-self.ensures end to c.requires s.reads same some refl refl refl (omega arith)
