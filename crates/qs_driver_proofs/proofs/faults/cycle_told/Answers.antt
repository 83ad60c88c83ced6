use Rattle.qs_core.specs.UnitTrees.{unit_tree}
use Rattle.qs_driver_proofs.proofs.ToldLaws.{cycle_is_told}
use Rattle.qs_driver_proofs.proofs.faults.cycle_told.Goals as goal

pub returns-in-Ok : goal.returns-in-Ok
returns-in-Ok c = λ file. cycle_is_told (unit_tree c.args.unit.now) file c.args.functions c.in-Ok.names (rw c.deref.ensures.value at c.in-Ok.ensures)
