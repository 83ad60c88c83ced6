use Rattle.qs_core.specs.UnitTrees.{unit_tree}
use Rattle.qs_certify.specs.Given.{text_of}
use Rattle.qs_driver_proofs.proofs.faults.proofs_told.Goals as goal

pub returns-in-Text : goal.returns-in-Text
returns-in-Text c = rw c.in-Text.is (c.file_told.ensures (unit_tree c.args.unit.now))

pub returns-in-Cycle : goal.returns-in-Cycle
returns-in-Cycle c = rw c.in-Cycle.is (c.cycle_told.ensures (text_of c.args.file))

pub returns-in-Entry : goal.returns-in-Entry
returns-in-Entry c = rw c.in-Entry.is (c.entry_told.ensures (text_of c.args.file))
