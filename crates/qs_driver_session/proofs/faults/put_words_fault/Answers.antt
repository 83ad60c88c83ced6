use Rattle.qs_driver_session.proofs.faults.put_words_fault.Goals as goal

pub returns-in-ArgCount : goal.returns-in-ArgCount
returns-in-ArgCount g c = rw c.in-ArgCount.is (rw c.from.ensures at c.put_arg_count.ensures)
