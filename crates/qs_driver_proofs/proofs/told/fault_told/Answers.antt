use Rattle.qs_core.specs.UnitTrees.{unit_tree}
use Rattle.qs_driver_proofs.proofs.told.fault_told.Goals as goal

pub returns-in-Cert : goal.returns-in-Cert
returns-in-Cert c = rw c.in-Cert.is (c.body_told.ensures (unit_tree c.args.unit.now) c.args.f.0)

pub returns-in-Entry : goal.returns-in-Entry
returns-in-Entry c = rw c.in-Entry.is (c.precondition_told.ensures (unit_tree c.args.unit.now) c.args.f.0)
