use Rattle.std.proofs.Common.{◌≡◌, length, rules, arith, refl}
use Rattle.std.proofs.lemmas.Grind.{common_steps}
use Rattle.qs_ports.specs.Cells.{Starts}
use Rattle.qs_ports.specs.ShelfView.{shelf_view}
use Rattle.qs_ports.proofs.ShelfChanges.{cells_create, still_lies, started_lies, created_current, first_file}
use Rattle.qs_ports.proofs.memory.shelf.Shelf.create.Goals as goal

pub renewed-self-requires-clause-reading : goal.renewed-self-requires-clause-reading
renewed-self-requires-clause-reading c =
    let s = c.args.self.now in
    let same : length s.cells.parts.items ≡ length s.cells.bytes.items = grind (arith, common_steps) in
    let started : Starts s.cells c.start.new.self c.args.name.now c.unwrap-file.result = search rules in
    still_lies s.cells c.start.new.self c.args.name.now c.unwrap-file.result s.reading started s.reads same

pub renewed-self-requires-clause-created : goal.renewed-self-requires-clause-created
renewed-self-requires-clause-created c =
    let s = c.args.self.now in
    let started : Starts s.cells c.start.new.self c.args.name.now c.unwrap-file.result = search rules in
    started_lies s.cells c.start.new.self c.args.name.now c.unwrap-file.result started

pub invariant_of-self-2-clause-reads : goal.invariant_of-self-2-clause-reads
invariant_of-self-2-clause-reads c =
    let s = c.args.self.now in
    let same : length s.cells.parts.items ≡ length s.cells.bytes.items = grind (arith, common_steps) in
    let started : Starts s.cells c.start.new.self c.args.name.now c.unwrap-file.result = search rules in
    created_current s.cells c.start.new.self c.args.name.now c.unwrap-file.result s.reading _ started c.renewed-self.ensures s.reads same

pub invariant_of-self-2-clause-writes : goal.invariant_of-self-2-clause-writes
invariant_of-self-2-clause-writes c = λ w f.
    let s = c.args.self.now in
    let same : length s.cells.parts.items ≡ length s.cells.bytes.items = grind (arith, common_steps) in
    let started : Starts s.cells c.start.new.self c.args.name.now c.unwrap-file.result = search rules in
    first_file s.cells c.start.new.self c.args.name.now c.unwrap-file.result started same

pub returns-clause-created : goal.returns-clause-created
returns-clause-created c = λ faults misses.
    let s = c.args.self.now in
    let same : length s.cells.parts.items ≡ length s.cells.bytes.items = grind (arith, common_steps) in
    let started : Starts s.cells c.start.new.self c.args.name.now c.unwrap-file.result = search rules in
    cells_create (shelf_view s faults misses) s.cells c.start.new.self c.args.name.now c.unwrap-file.result s.reading _ _ started c.renewed-self.ensures s.reads same refl refl (omega arith)
