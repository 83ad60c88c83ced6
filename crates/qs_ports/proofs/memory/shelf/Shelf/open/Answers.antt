use Rattle.std.proofs.Common.{ap, rules}
use Rattle.qs_ports.specs.Cells.{spans_of}
use Rattle.qs_ports.specs.ShelfView.{shelf_view}
use Rattle.qs_ports.proofs.ShelfChanges.{opened_name, found_newest}
use Rattle.qs_ports.proofs.memory.shelf.Shelf.open.Goals as goal

pub invariant_of-self-clause-reads : goal.invariant_of-self-clause-reads
invariant_of-self-clause-reads c =
    let s = c.args.self.now in
    found_newest s.cells.bytes.items (spans_of s.cells.parts.items) c.args.name.now c.find-self.result (search rules)

pub returns-clause-opened : goal.returns-clause-opened
returns-clause-opened c = λ faults misses.
    let s = c.args.self.now in
    ap (λ r. record (shelf_view s faults misses) { reading = r; place = 0 })
    (opened_name s.cells.bytes.items (spans_of s.cells.parts.items) c.args.name.now c.find-self.result c.is_some.result (search rules) c.is_some.ensures)
