use Rattle.std.proofs.Common.{◌≡◌, ◌<◌, ◌-◌, ◌+◌, length, rules, arith, true, bytes_eq}
use Rattle.std.proofs.lemmas.Grind.{common_steps}
use Rattle.qs_ports.specs.Shelf.{name_at}
use Rattle.qs_ports.proofs.CellLaws.{span_at}
use Rattle.qs_ports.proofs.CellScans.{is_part, scan_at, scan_lies, scan_finds}
use Rattle.qs_ports.proofs.memory.cells.Cells.find.Goals as goal

pub name-requires : goal.name-requires
name-requires c =
    let cells = c.args.self.now in
    let place = c.loop-place.place - 1 in
    let inside : place < length cells.parts.items = grind (arith, common_steps) in
    scan_lies cells.bytes.items c.args.name.now cells.parts.items place c.loop-place.content c.loop-place.end _ inside (grind (arith, common_steps))
    (scan_at _ _ _ c.loop-place.place place _ _ (omega arith) c.loop-place.invariant)

pub returns-then-eq : goal.returns-then-eq
returns-then-eq c =
    let cells = c.args.self.now in
    let place = c.loop-place.place - 1 in
    let inside : place < length cells.parts.items = grind (arith, common_steps) in
    let same : bytes_eq (name_at cells.bytes.items (span_at (place + 1) c.loop-place.content c.loop-place.end)) c.args.name.now ≡ true = search rules in
    scan_finds cells.bytes.items c.args.name.now cells.parts.items place c.loop-place.content c.loop-place.end
    (is_part _ place c.index.result.now _ inside c.index.ensures c.in-Start.is)
    (scan_at _ _ _ c.loop-place.place place _ _ (omega arith) c.loop-place.invariant) same
