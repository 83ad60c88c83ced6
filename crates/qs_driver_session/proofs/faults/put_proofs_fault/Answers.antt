use Rattle.qs_driver_session.proofs.faults.put_proofs_fault.Goals as goal

pub returns-in-Cycle : goal.returns-in-Cycle
returns-in-Cycle g c = rw c.in-Cycle.is (rw c.deref.ensures.value at c.put_cycle.ensures)
