use Rattle.qs_driver_session.proofs.faults.put_status.Goals as goal

pub returns-in-StepLimit : goal.returns-in-StepLimit
returns-in-StepLimit g c = rw c.in-StepLimit.is c.put_text-in-StepLimit.ensures

pub returns-in-StackTooLarge : goal.returns-in-StackTooLarge
returns-in-StackTooLarge g c = rw c.in-StackTooLarge.is c.put_text-in-StackTooLarge.ensures

pub returns-in-NoMemory : goal.returns-in-NoMemory
returns-in-NoMemory g c = rw c.in-NoMemory.is c.put_text-in-NoMemory.ensures
